use Rattle.std.proofs.Common.{◌≡◌, false, slice_index_or}
use Rattle.hm_store.specs.Objects.{skip_all}
use Rattle.hm_store.specs.Reaching.{below}
use Rattle.hm_store.proofs.store.readiness.skip_marked.Given as goal

abbrev pub invariant-loop-number : goal.invariant-loop-number
invariant-loop-number l = l.statuses ≡ skip_all l.initial.statuses (below (λ k. slice_index_or l.marks k false) l.number)
