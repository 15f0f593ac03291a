use Rattle.std.proofs.Common.{◌≤◌, drop, length}
use Rattle.hm_typing.specs.Names.{IsOneOf}
use Rattle.hm_names_keys.specs.Keys.{variable_of_key}
use Rattle.hm_names_keys.specs.Variables.{identifier}
use Rattle.hm_infer_context.specs.Environments.{assumed_names}
use Rattle.hm_infer_context.specs.Kept.{entries_of}
use Rattle.hm_infer_context.proofs.environment.place_among_last.Given as goal

abbrev pub invariant-items : goal.invariant-items
invariant-items l = record {
  from : l.from ≤ l.place;
  within : l.place ≤ length l.items;
  none : ¬ (IsOneOf (identifier (variable_of_key l.key)) (assumed_names (entries_of (drop l.place l.items))));
}

abbrev pub decreases-items : goal.decreases-items
decreases-items l = l.place
