use Rattle.std.proofs.Common.{◌≡◌, take}
use Rattle.std.specs.Prelude.{flat_map}
use Rattle.hm_messages_changes.specs.Wildcards.{hole_for}
use Rattle.hm_messages_changes.proofs.wildcards.holes_for.Given as goal

abbrev pub invariant-loop-variable : goal.invariant-loop-variable
invariant-loop-variable l = l.made.items ≡ flat_map (hole_for l.source) (take l.variable-index l.variables)
