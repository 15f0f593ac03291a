use Rattle.std.proofs.Common.{refl, arith}
use Rattle.std.proofs.lemmas.List.{get_or_default}
use Rattle.std.specs.BinaryHeap.{heap_len}
use Rattle.hm_store.proofs.OpenImports.{opening_len, opening_more}
use Rattle.hm_store.proofs.store.ready_set.without_imports.Goals as goal

pub loop-number-preserved : goal.loop-number-preserved
loop-number-preserved c =
    let counts = c.args.counts.now in
    let n = c.loop-number.number in
    let lt = c.loop-number-test.true in record {
      heap = opening_more counts n _ c.loop-number.ready c.put_if_none.new.ready lt (get_or_default counts n 0 1 lt) (c.put_if_none.ensures.order c.loop-number.invariant.heap.order) c.put_if_none.ensures.each c.loop-number.invariant.heap;
      len = opening_len counts n _ (heap_len c.loop-number.ready) (heap_len c.put_if_none.new.ready) lt refl c.put_if_none.ensures.len c.loop-number.invariant.len;
      room = omega (arith, c.put_if_none.ensures.capacity, c.loop-number.invariant.room);
    }
