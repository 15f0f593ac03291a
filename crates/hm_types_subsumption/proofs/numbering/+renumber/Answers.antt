use Rattle.std.proofs.Common.{rules, ◌∙◌, ap}
use Rattle.hm_types.specs.Types.{App as app}
use Rattle.hm_types.specs.Monotypes.{arguments_of}
use Rattle.hm_types.specs.Schemes.{numbering}
use Rattle.hm_types.proofs.Rows.{argument_smaller, pushed_more, made_all}
use Rattle.hm_types_subsumption.proofs.numbering.+renumber.Goals as goal

pub renumber-requires : goal.renumber-requires
renumber-requires t c =
    let smaller = argument_smaller _ _ _ _ c.argument-item.result c.loop-argument.invariant.whole c.loop-argument-test.true c.argument-item.is in
    search rules

pub loop-argument-preserved : goal.loop-argument-preserved
loop-argument-preserved t c = record {
  whole = c.loop-argument.invariant.whole;
  done = λ xs n.
      pushed_more (numbering xs) _ _ _ _ c.argument-item.result _ c.loop-argument-test.true c.argument-item.is (c.loop-argument.invariant.done xs n) (c.in_ok-renumber-in-App.ensures xs n)
      c.in_ok-push-in-App.ensures.items;
}

pub returns-in_ok-copy-in-App : goal.returns-in_ok-copy-in-App
returns-in_ok-copy-in-App t c = λ xs n.
    ap (λ us. app c.in_ok-copy-in-App.field-0 (arguments_of us)) c.new.ensures ∙
    made_all (numbering xs) _ _ _ _ _ _ c.loop-argument.invariant.whole c.in_ok-copy-in-App.ensures c.loop-argument-test.false (c.loop-argument.invariant.done xs n)
