use Rattle.std.proofs.Common.{take, refl, get_or}
use Rattle.std.proofs.lemmas.List.{take_more, take_all}
use Rattle.hm_infer_dependencies.proofs.Walking.{Shows-none, Shows-more, Shows-all}
use Rattle.hm_infer_dependencies.proofs.hiding.show.Goals as goal

pub loop-number-init : goal.loop-number-init
loop-number-init c = Shows-none c.args.shown.now

pub loop-number-preserved : goal.loop-number-preserved
loop-number-preserved c =
    Shows-more (take c.loop-number.number-index c.args.noted.now) _ (get_or c.args.noted.now c.loop-number.number-index 0) c.args.shown.now c.loop-number.shown _
    (c.requires c.loop-number.number-index 0 c.loop-number-test.true) (take_more c.args.noted.now c.loop-number.number-index 0 c.loop-number-test.true) refl c.loop-number.invariant

pub returns : goal.returns
returns c = Shows-all _ _ c.args.shown.now c.loop-number.shown (take_all c.loop-number.number-index c.args.noted.now c.loop-number-test.false) c.loop-number.invariant
