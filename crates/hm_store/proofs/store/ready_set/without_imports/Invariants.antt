use Rattle.std.proofs.Common.{◌≡◌, ◌==◌, ◌&&◌, ◌+◌, ◌≤◌, length, take, slice_index_or, nat_lt}
use Rattle.std.specs.BinaryHeap.{heap_capacity, heap_len}
use Rattle.hm_store.specs.Readiness.{IsHeapOf, positive}
use Rattle.hm_store.proofs.store.ready_set.without_imports.Given as goal

abbrev pub invariant-loop-number : goal.invariant-loop-number
invariant-loop-number l = record {
  heap : IsHeapOf (λ k. nat_lt k l.number && (slice_index_or l.counts k 1 == 0)) l.ready;
  len : heap_len l.ready + positive (take l.number l.counts) ≡ l.number;
  room : length l.counts ≤ heap_capacity l.ready;
}
