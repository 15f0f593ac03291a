use Rattle.std.proofs.Common.{◌<◌, rules, length, arith}
use Rattle.hm_types.proofs.Matched.{args_smaller, item_smaller}
use Rattle.hm_messages_types.proofs.NoFiniteType.{some_at}
use Rattle.hm_messages_types.proofs.infinite.+infinite.Goals as goal

pub need_infinite-some_need_infinite-requires : goal.need_infinite-some_need_infinite-requires
need_infinite-some_need_infinite-requires t c =
    let smaller = args_smaller c.args.left.now c.in-App-App.head _ c.as_slice.result.now c.in-App-App.is-0 c.as_slice.ensures in
    search rules

pub some_need_infinite-need_infinite-requires : goal.some_need_infinite-need_infinite-requires
some_need_infinite-need_infinite-requires t c =
    let smaller = item_smaller _ _ c.index-lefts-i.result c.loop-i-test.true c.index-lefts-i.is in
    search rules

pub some_need_infinite-returns-then-need_infinite : goal.some_need_infinite-returns-then-need_infinite
some_need_infinite-returns-then-need_infinite t c =
    let below : c.loop-i.i < length c.args.rights.now = omega (arith, c.loop-i.invariant, c.loop-i-test.true) in
    λ e. some_at _ _ _ c.index-lefts-i.result c.index-rights-i.result c.loop-i-test.true below c.index-lefts-i.is c.index-rights-i.is (c.need_infinite.ensures c.if-need_infinite.true)
