use Rattle.std.proofs.Common.{◌≡◌, All, subst}
use Rattle.std.proofs.lemmas.List.{take_all}
use Rattle.std.proofs.lemmas.List.Elements.{All-more}
use Rattle.hm_run_sources.specs.declared.located.Located.{Located}
use Rattle.hm_messages.proofs.refusals.module_called.Goals as goal

pub modules-preserved : goal.modules-preserved
modules-preserved c =
    let without = λ (h : Located). ¬ (h.header.name.text ≡ c.args.name.now) in
    All-more without c.args.located.now c.modules.here-index c.here-item.result c.modules-test.true c.modules.invariant
    (subst without c.here-item.is (c.is_called.ensures.hasnt c.if-is_called.false))

pub returns : goal.returns
returns c =
    let without = λ (h : Located). ¬ (h.header.name.text ≡ c.args.name.now) in
    subst (All without) (take_all c.modules.here-index c.args.located.now c.modules-test.false) c.modules.invariant
