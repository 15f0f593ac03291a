use Rattle.std.proofs.Common.{◌≡◌, ap, eqb, map}
use Rattle.std.proofs.lemmas.Bool.Decides.{Decides-eqb}
use Rattle.hm_service_messages.proofs.Chosen.{chosen_more}
use Rattle.hm_service_messages.proofs.choosing.diagnostics_in.Goals as goal

pub diagnostics-preserved : goal.diagnostics-preserved
diagnostics-preserved c =
    let d = c.diagnostic-item.result in
    let old = map (λ x. x.now) c.diagnostics.found.items in
    let new = map (λ x. x.now) c.add.new.found.items in
    chosen_more (λ x. x.source ≡ c.args.source) c.args.diagnostics.now c.diagnostics.diagnostic-index d old new (eqb d.source c.args.source) c.diagnostics-test.true c.diagnostic-item.is c.diagnostics.invariant (Decides-eqb d.source c.args.source)
    c.in_ok-add.ensures.yes (λ clear. ap (map (λ x. x.now)) (c.in_ok-add.ensures.none clear))
