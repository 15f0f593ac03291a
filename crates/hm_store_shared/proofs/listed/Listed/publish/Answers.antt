use Rattle.std.proofs.Common.{◌++◌, ◌∷◌, [], None, Ok, ap, subst, sym, ◌∙◌}
use Rattle.hm_store_shared.specs.Listings.{Listing}
use Rattle.hm_store.specs.Builds.{Refuses}
use Rattle.hm_store_shared.proofs.JobImports.{same_settled}
use Rattle.hm_store_shared.proofs.Listing.{may_follow, listed_settled, publication}
use Rattle.hm_store_shared.proofs.listed.Listed.publish.Goals as goal

pub publish-requires-clause-lawful : goal.publish-requires-clause-lawful
publish-requires-clause-lawful g c =
    let b = c.self.inside.store in
    let ps = c.self.inside.front in
    let accepted : Refuses b c.args.worker c.args.number c.args.offered.outcome None = subst (λ (l : Listing). Refuses l.build c.args.worker c.args.number c.args.offered.outcome None) (sym c.self.view_is) c.in_default.ensures in
    rw c.entries-place.ensures.is (may_follow _ _ b ps c.args.worker c.args.number c.args.offered.outcome c.steps_settle_a_set.ensures.asked c.entries-place.ensures.legal c.self.invariant.0 c.self.invariant.1 accepted c.verdict-right.ensures.right c.requires.good)

pub invariant_of-self : goal.invariant_of-self
invariant_of-self g c =
    let b = c.self.inside.store in
    let ps = c.self.inside.front in
    let accepted : Refuses b c.args.worker c.args.number c.args.offered.outcome None = subst (λ (l : Listing). Refuses l.build c.args.worker c.args.number c.args.offered.outcome None) (sym c.self.view_is) c.in_default.ensures in
    let more = c.in-Ok.ensures.ok ∙ ap (λ n. ps ++ publication c.args.number n c.args.offered.outcome ∷ []) c.entries-place.ensures.is in
    (rw more (listed_settled b ps c.args.worker c.args.number c.args.offered.outcome c.entries-place.ensures.legal accepted c.self.invariant.0 c.publish_fitting.new.self (Ok tt) (accepted, c.publish_fitting.ensures)), same_settled b c.publish_fitting.new.self c.args.worker c.args.number c.args.offered.outcome _ (Ok tt) (accepted, c.publish_fitting.ensures) c.self.invariant.1)
