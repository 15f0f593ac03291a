use Rattle.std.proofs.Common.{◌≡◌, length, map, take}
use Rattle.hm_store.proofs.store.ready_set.import_counts.Given as goal

abbrev pub invariant-loop-number : goal.invariant-loop-number
invariant-loop-number l = l.counts.items ≡ map length (take l.number l.plan)
