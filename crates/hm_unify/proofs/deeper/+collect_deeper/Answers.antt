use Rattle.std.proofs.Common.{rules}
use Rattle.hm_types.specs.Shape.{type_of}
use Rattle.hm_types.proofs.Rows.{argument_smaller}
use Rattle.hm_unify.specs.Steps.{equations_in}
use Rattle.hm_unify.proofs.Outer.{deeper_more, deeper_all}
use Rattle.hm_unify.proofs.deeper.+collect_deeper.Goals as goal

pub collect_deeper-requires : goal.collect_deeper-requires
collect_deeper-requires t c =
    let smaller = argument_smaller _ _ _ _ c.argument-item.result c.loop-argument.invariant.whole.1 c.loop-argument-test.true c.argument-item.is in
    search rules

pub loop-argument-preserved : goal.loop-argument-preserved
loop-argument-preserved t c = record {
  whole = c.loop-argument.invariant.whole;
  placed = c.in_ok-collect_deeper-in-App.ensures.placed;
  done = deeper_more (equations_in c.args.bindings.now) _ _ _ c.argument-item.result _ _ _ c.loop-argument-test.true c.argument-item.is c.loop-argument.invariant.done c.in_ok-collect_deeper-in-App.ensures.numbers;
}

pub returns-after-loop-argument-clause-numbers : goal.returns-after-loop-argument-clause-numbers
returns-after-loop-argument-clause-numbers t c = deeper_all (equations_in c.args.bindings.now) _ (type_of c.args.t.now) c.loop-argument.invariant.whole.0 _ _ _ _ c.loop-argument.invariant.whole.1 c.loop-argument-test.false c.loop-argument.invariant.done
