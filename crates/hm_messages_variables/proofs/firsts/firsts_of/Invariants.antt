use Rattle.std.proofs.Common.{◌≡◌, ◌++◌, [], drop, map}
use Rattle.hm_names.specs.Faults.Lists.{firsts}
use Rattle.hm_messages_variables.proofs.firsts.firsts_of.Given as goal

abbrev pub invariant-row : goal.invariant-row
invariant-row l = l.out ++ firsts l.seen (map (λ n. n.now) (drop l.name-index l.row)) ≡ firsts [] (map (λ n. n.now) l.row)
