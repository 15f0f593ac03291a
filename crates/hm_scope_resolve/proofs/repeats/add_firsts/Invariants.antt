use Rattle.std.proofs.Common.{◌≡◌, ◌++◌, [], drop, map}
use Rattle.hm_names.specs.Faults.Lists.{firsts}
use Rattle.hm_scope_resolve.proofs.repeats.add_firsts.Given as goal

abbrev pub invariant-row : goal.invariant-row
invariant-row l = l.out ++ firsts l.seen (map (λ n. n.now) (drop l.name-index l.row)) ≡ l.fn.out ++ firsts [] (map (λ n. n.now) l.row)
