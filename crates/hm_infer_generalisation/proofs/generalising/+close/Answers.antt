use Rattle.std.proofs.Common.{rules, ◌∙◌, ap}
use Rattle.hm_types.specs.Types.{Var as leaf, App as app}
use Rattle.hm_types.specs.Monotypes.{arguments_of}
use Rattle.hm_unify.specs.Levels.{is_outer}
use Rattle.hm_infer_generalisation.specs.Generalised.{closing}
use Rattle.hm_types.proofs.Rows.{argument_smaller}
use Rattle.hm_infer_context.proofs.Mapped.{pushed_more, made_all}
use Rattle.hm_infer_generalisation.proofs.generalising.+close.Goals as goal

pub close-requires : goal.close-requires
close-requires t c =
    let smaller = argument_smaller _ _ _ _ c.argument-item.result c.loop-argument.invariant.whole c.loop-argument-test.true c.argument-item.is in
    search rules

pub loop-argument-preserved : goal.loop-argument-preserved
loop-argument-preserved t c = record {
  whole = c.loop-argument.invariant.whole;
  done =
      pushed_more (λ l. leaf (closing (is_outer c.args.quantified.now.solver.now.equations c.args.quantified.now.older) c.args.quantified.now.count c.args.quantified.now.slots.now.plain c.args.quantified.now.slots.now.rigid l)) _ _ _ _ c.argument-item.result _ c.loop-argument-test.true c.argument-item.is c.loop-argument.invariant.done c.in_ok-close-in-App.ensures
      c.in_ok-push-in-App.ensures.items;
}

pub returns-in_ok-copy-in-App : goal.returns-in_ok-copy-in-App
returns-in_ok-copy-in-App t c =
    ap (λ us. app c.in_ok-copy-in-App.field-0 (arguments_of us)) c.new.ensures ∙
    made_all (λ l. leaf (closing (is_outer c.args.quantified.now.solver.now.equations c.args.quantified.now.older) c.args.quantified.now.count c.args.quantified.now.slots.now.plain c.args.quantified.now.slots.now.rigid l)) _ _ _ _ _ _ c.loop-argument.invariant.whole c.in_ok-copy-in-App.ensures c.loop-argument-test.false c.loop-argument.invariant.done
