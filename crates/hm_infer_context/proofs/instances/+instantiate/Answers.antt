use Rattle.std.proofs.Common.{rules, ◌∙◌, ap}
use Rattle.hm_types.specs.Types.{App as app}
use Rattle.hm_types.specs.Monotypes.{arguments_of}
use Rattle.hm_infer_context.specs.Environments.{opened}
use Rattle.hm_infer_context.specs.VariableKinds.{is_rigid}
use Rattle.hm_types.proofs.Rows.{argument_smaller}
use Rattle.hm_infer_context.proofs.Mapped.{pushed_more, made_all}
use Rattle.hm_infer_context.proofs.instances.+instantiate.Goals as goal

pub instantiate-requires : goal.instantiate-requires
instantiate-requires t c =
    let smaller = argument_smaller _ _ _ _ c.argument-item.result c.loop-argument.invariant.whole c.loop-argument-test.true c.argument-item.is in
    search rules

pub loop-argument-preserved : goal.loop-argument-preserved
loop-argument-preserved t c = record {
  whole = c.loop-argument.invariant.whole;
  done = pushed_more (opened (is_rigid c.args.kind) c.args.quantified c.args.base) _ _ _ _ c.argument-item.result _ c.loop-argument-test.true c.argument-item.is c.loop-argument.invariant.done c.in_ok-instantiate-in-App.ensures
      c.in_ok-push-in-App.ensures.items;
}

pub returns-in_ok-copy-in-App : goal.returns-in_ok-copy-in-App
returns-in_ok-copy-in-App t c =
    ap (λ us. app c.in_ok-copy-in-App.field-0 (arguments_of us)) c.new.ensures ∙
    made_all (opened (is_rigid c.args.kind) c.args.quantified c.args.base) _ _ _ _ _ _ c.loop-argument.invariant.whole c.in_ok-copy-in-App.ensures c.loop-argument-test.false c.loop-argument.invariant.done
