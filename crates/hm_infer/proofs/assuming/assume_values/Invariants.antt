use Rattle.std.proofs.Common.{◌≡◌, ◌-◌, drop, length}
use Rattle.hm_infer_context.specs.Environments.{AreAssumed, assumptions}
use Rattle.hm_infer.specs.Imported.{assumed_inside}
use Rattle.hm_infer.proofs.assuming.assume_values.Given as goal

abbrev pub invariant-values : goal.invariant-values
invariant-values l = record {
  assumed : assumptions l.environment ≡ assumed_inside (drop (length l.values - l.behind) l.values) (assumptions l.initial.environment);
  closed : AreAssumed 0 l.initial.environment → AreAssumed 0 l.environment;
}
