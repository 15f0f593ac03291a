use Rattle.std.proofs.Common.{◌≡◌, ◌-◌, drop, length, map}
use Rattle.std.specs.Arc.{arc_value}
use Rattle.hm_names.specs.Cores.{assumed, imported_values}
use Rattle.hm_infer_context.specs.Environments.{AreAssumed, assumptions}
use Rattle.hm_infer.proofs.assuming.imported_environment.Given as goal

abbrev pub invariant-interfaces : goal.invariant-interfaces
invariant-interfaces l = record {
  assumed : assumptions l.environment ≡ assumed (imported_values (map arc_value (drop (length l.interfaces - l.behind) l.interfaces)));
  closed : AreAssumed 0 l.environment;
}
