use Rattle.std.proofs.Common.{rules, ◌∙◌, ap, sym}
use Rattle.hm_types.specs.Types.{App as app}
use Rattle.hm_types.specs.Monotypes.{arguments_of}
use Rattle.hm_types.specs.Shape.{type_of}
use Rattle.hm_types.proofs.Rows.{argument_smaller}
use Rattle.hm_types.specs.Schemes.{variables_after}
use Rattle.hm_types.proofs.Table.{numbers_more, numbers_all}
use Rattle.hm_types_subsumption.proofs.numbering.+collect.Goals as goal

pub collect-requires : goal.collect-requires
collect-requires t c =
    let whole = ap type_of c.in-App.is ∙ ap (λ us. app c.in-App.field-0 (arguments_of us)) (sym c.as_slice-argument-items.ensures) in
    let smaller = argument_smaller _ _ _ _ c.argument-item.result whole c.loop-argument-test.true c.argument-item.is in
    search rules

pub loop-argument-init : goal.loop-argument-init
loop-argument-init t c = record {
  whole = λ xs. ap (variables_after xs) (ap type_of c.in-App.is ∙ ap (λ us. app c.in-App.field-0 (arguments_of us)) (sym c.as_slice-argument-items.ensures));
  done = λ xs n. n;
}

pub loop-argument-preserved : goal.loop-argument-preserved
loop-argument-preserved t c = record {
  whole = c.loop-argument.invariant.whole;
  done = λ xs n.
      numbers_more _ xs _ _ c.argument-item.result c.loop-argument-test.true c.argument-item.is (c.in_ok-collect-in-App.ensures _ (c.loop-argument.invariant.done xs n));
}

pub returns-after-loop-argument : goal.returns-after-loop-argument
returns-after-loop-argument t c = λ xs n. numbers_all _ xs (type_of c.args.t.now) _ _ c.loop-argument-test.false (c.loop-argument.invariant.whole xs) (c.loop-argument.invariant.done xs n)
