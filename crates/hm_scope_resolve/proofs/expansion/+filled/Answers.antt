use Rattle.std.proofs.Common.{rules}
use Rattle.hm_syntax.specs.Lists.{types}
use Rattle.hm_types.proofs.Rows.{argument_smaller}
use Rattle.hm_scope_resolve.proofs.Expanded.{filled_more, filled_end}
use Rattle.hm_scope_resolve.proofs.expansion.+filled.Goals as goal

pub filled-requires : goal.filled-requires
filled-requires t c =
    let smaller = argument_smaller _ _ _ _ c.part-item.result c.parts.invariant.whole c.parts-test.true c.part-item.is in
    search rules

pub parts-preserved : goal.parts-preserved
parts-preserved t c = record {
  whole = c.parts.invariant.whole;
  done = filled_more c.args.name.now (types c.args.args.now) _ _ c.part-item.result _ _ _ c.parts-test.true c.part-item.is c.parts.invariant.done c.in_ok-filled-in-App.ensures c.in_ok-push-in-App.ensures.items;
}

pub returns-in_ok-applied-in-App : goal.returns-in_ok-applied-in-App
returns-in_ok-applied-in-App t c =
    filled_end c.args.name.now (types c.args.args.now) _ _ _ _ _ _ c.parts-test.false c.parts.invariant.done c.parts.invariant.whole c.in_ok-applied-in-App.ensures
