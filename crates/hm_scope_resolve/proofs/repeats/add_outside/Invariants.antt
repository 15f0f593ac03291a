use Rattle.std.proofs.Common.{◌≡◌, ◌++◌, drop, map}
use Rattle.hm_names.specs.Faults.Phases.{fault}
use Rattle.hm_names.specs.Found.{outside}
use Rattle.hm_names.specs.Variables.{texts}
use Rattle.hm_scope_resolve.proofs.repeats.add_outside.Given as goal

abbrev pub invariant-row : goal.invariant-row
invariant-row l = l.faults.items ++ map (fault l.kind) (outside (texts l.known) (map (λ n. n.now) (drop l.name-index l.row))) ≡ l.fn.faults.items ++ map (fault l.kind) (outside (texts l.known) (map (λ n. n.now) l.row))
