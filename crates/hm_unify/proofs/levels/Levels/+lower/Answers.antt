use Rattle.std.proofs.Common.{rules, ap, refl}
use Rattle.hm_types.specs.Shape.{type_of}
use Rattle.hm_types.proofs.Rows.{argument_smaller}
use Rattle.hm_unify.proofs.LevelTables.{continues_further, lowers_variable, lowers_rigid, lowers_more, lowers_all}
use Rattle.hm_unify.proofs.levels.Levels.+lower.Goals as goal

pub lower-requires-in-loop-argument : goal.lower-requires-in-loop-argument
lower-requires-in-loop-argument t c =
    let smaller = argument_smaller _ _ _ _ c.argument-item.result c.loop-argument.invariant.whole.1 c.loop-argument-test.true c.argument-item.is in
    search rules

pub loop-argument-preserved : goal.loop-argument-preserved
loop-argument-preserved t c = record {
  whole = c.loop-argument.invariant.whole;
  done = lowers_more _ _ _ _ _ _ c.argument-item.result c.loop-argument-test.true c.argument-item.is c.loop-argument.invariant.done c.in_ok-lower-in-App.ensures.lowered;
  continued = continues_further c.loop-argument.invariant.continued c.in_ok-lower-in-App.ensures.continued;
}

pub returns-in_ok-lower-in-Var-clause-lowered : goal.returns-in_ok-lower-in-Var-clause-lowered
returns-in_ok-lower-in-Var-clause-lowered t c = lowers_variable c.in-Var.n _ (type_of c.args.t.now) _ _ (ap type_of c.in-Var.is) c.in_ok-lower-in-Var.ensures.lowered refl

pub returns-in_ok-lower-in-Rigid-clause-lowered : goal.returns-in_ok-lower-in-Rigid-clause-lowered
returns-in_ok-lower-in-Rigid-clause-lowered t c = lowers_rigid c.in-Rigid.n _ (type_of c.args.t.now) _ _ (ap type_of c.in-Rigid.is) c.in_ok-lower-in-Rigid.ensures.lowered refl

pub returns-after-loop-argument-clause-lowered : goal.returns-after-loop-argument-clause-lowered
returns-after-loop-argument-clause-lowered t c = lowers_all _ _ _ (type_of c.args.t.now) c.loop-argument.invariant.whole.0 _ _ c.loop-argument.invariant.whole.1 c.loop-argument-test.false c.loop-argument.invariant.done
