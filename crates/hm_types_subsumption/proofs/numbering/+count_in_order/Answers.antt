use Rattle.std.proofs.Common.{rules, refl, ◌∙◌, ap, sym}
use Rattle.hm_types.specs.Types.{App as app}
use Rattle.hm_types.specs.Monotypes.{arguments_of}
use Rattle.hm_types.specs.Shape.{type_of}
use Rattle.hm_types.specs.Schemes.{count_up, variables_after}
use Rattle.hm_types.proofs.Rows.{argument_smaller}
use Rattle.hm_types_subsumption.proofs.Numbered.{seen_before, seen_next, counted_argument, counted_arguments}
use Rattle.hm_types_subsumption.proofs.numbering.+count_in_order.Goals as goal

pub count_in_order-requires : goal.count_in_order-requires
count_in_order-requires t c =
    let whole = ap type_of c.in-App.is ∙ ap (λ us. app c.in-App.field-0 (arguments_of us)) (sym c.as_slice-argument-items.ensures) in
    let smaller = argument_smaller _ _ _ _ c.argument-item.result whole c.loop-argument-test.true c.argument-item.is in
    search rules

pub loop-argument-init : goal.loop-argument-init
loop-argument-init t c = record {
  whole = λ xs. ap (variables_after xs) (ap type_of c.in-App.is ∙ ap (λ us. app c.in-App.field-0 (arguments_of us)) (sym c.as_slice-argument-items.ensures));
  done = refl;
}

pub loop-argument-preserved : goal.loop-argument-preserved
loop-argument-preserved t c = record {
  whole = c.loop-argument.invariant.whole;
  done = counted_argument _ _ _ c.argument-item.result _ _ c.loop-argument-test.true c.argument-item.is c.loop-argument.invariant.done c.in-Some.ensures;
}

pub returns-then-n-next : goal.returns-then-n-next
returns-then-n-next t c = ap (λ u. variables_after (count_up 0 c.args.next) (type_of u)) c.in-Var.is ∙ seen_before c.args.next c.in-Var.n c.if-n-next.true

pub returns-else-n-next-2 : goal.returns-else-n-next-2
returns-else-n-next-2 t c = seen_next c.args.t.now c.args.next c.in-Var.n _ c.checked_add.result c.in-Var.is c.if-n-next-2.false c.if-n-next.false c.checked_add.ensures

pub returns-after-loop-argument : goal.returns-after-loop-argument
returns-after-loop-argument t c = counted_arguments _ (type_of c.args.t.now) _ _ _ c.loop-argument-test.false (c.loop-argument.invariant.whole _) c.loop-argument.invariant.done
