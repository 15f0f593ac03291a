use Rattle.std.proofs.Common.{◌≡◌, ◌++◌, [], take, drop, map}
use Rattle.hm_names.specs.Faults.Lists.{firsts}
use Rattle.hm_names.specs.Variables.{texts}
use Rattle.hm_scope_resolve.proofs.repeats.add_few_firsts.Given as goal

abbrev pub invariant-row : goal.invariant-row
invariant-row l = l.out ++ firsts (texts (map (λ n. n.now) (take l.place l.row))) (map (λ n. n.now) (drop l.place l.row)) ≡ l.fn.out ++ firsts [] (map (λ n. n.now) l.row)
