use Rattle.std.proofs.Common.{◌≡◌, ◌++◌, [], take, drop, map}
use Rattle.hm_names.specs.Faults.Phases.{fault}
use Rattle.hm_names.specs.Found.{repeated}
use Rattle.hm_names.specs.Variables.{texts}
use Rattle.hm_scope_resolve.proofs.repeats.add_few_repeated.Given as goal

abbrev pub invariant-row : goal.invariant-row
invariant-row l = l.faults.items ++ map (fault l.kind) (repeated (texts (map (λ n. n.now) (take l.place l.row))) (map (λ n. n.now) (drop l.place l.row))) ≡ l.fn.faults.items ++ map (fault l.kind) (repeated [] (map (λ n. n.now) l.row))
