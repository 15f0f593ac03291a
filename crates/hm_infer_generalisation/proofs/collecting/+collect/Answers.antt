use Rattle.std.proofs.Common.{rules, sym, ap, ◌∙◌}
use Rattle.hm_types.specs.Types.{App as app}
use Rattle.hm_types.specs.Monotypes.{arguments_of}
use Rattle.hm_types.specs.Shape.{type_of}
use Rattle.hm_types.proofs.Rows.{argument_smaller}
use Rattle.hm_infer_generalisation.proofs.Gather.{gathers_none, gathers_more, gathers_all}
use Rattle.hm_infer_generalisation.proofs.collecting.+collect.Goals as goal

pub collect-requires : goal.collect-requires
collect-requires t c =
    let smaller = argument_smaller _ _ _ _ c.argument-item.result c.loop-argument.invariant.whole.1 c.loop-argument-test.true c.argument-item.is in
    search rules

pub loop-argument-init : goal.loop-argument-init
loop-argument-init t c = record {
  whole = (c.in-App.field-0, ap type_of c.in-App.is ∙ ap (λ us. app c.in-App.field-0 (arguments_of us)) (sym c.as_slice-argument-items.ensures));
  done = gathers_none _ (λ l i. i);
}

pub loop-argument-preserved : goal.loop-argument-preserved
loop-argument-preserved t c = record {
  whole = c.loop-argument.invariant.whole;
  done = gathers_more _ _ _ _ _ c.argument-item.result c.loop-argument-test.true c.argument-item.is c.loop-argument.invariant.done c.in_ok-collect-in-App.ensures;
}

pub returns-after-loop-argument : goal.returns-after-loop-argument
returns-after-loop-argument t c = gathers_all _ _ (type_of c.args.t.now) _ _ _ c.loop-argument-test.false c.loop-argument.invariant.whole.1 c.loop-argument.invariant.done
