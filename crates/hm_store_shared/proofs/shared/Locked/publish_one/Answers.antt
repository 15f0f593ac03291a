use Rattle.std.proofs.Common.{ap, ◌∙◌, subst}
use Rattle.hm_store_published.specs.Publications.{interface_in}
use Rattle.hm_store.specs.Builds.{IsLegal}
use Rattle.hm_store_shared.specs.Listings.{Listing}
use Rattle.hm_store_shared.proofs.Listing.{published_shown}
use Rattle.hm_store_shared.proofs.shared.Locked.publish_one.Goals as goal

pub returns-in-Ok-clause-published : goal.returns-in-Ok-clause-published
returns-in-Ok-clause-published g c =
    let l = c.args.self.now.listed in
    let step = c.in-Ok.ensures.step in
    let legal : IsLegal l.build = subst IsLegal c.store.ensures.store c.entries-entries.ensures.legal in
    let listed = c.store.ensures.listed in
    ap (λ (x : Listing). interface_in x.published c.args.number) step.1 ∙ published_shown l.build l.published _ c.args.number c.args.offered.outcome legal step.0.0 listed
