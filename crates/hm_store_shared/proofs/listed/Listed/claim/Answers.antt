use Rattle.std.proofs.Common.{subst, sym}
use Rattle.hm_store.specs.Builds.{Build}
use Rattle.hm_store_shared.specs.Listings.{IsListed}
use Rattle.hm_store_shared.proofs.JobImports.{same_claimed}
use Rattle.hm_store_shared.proofs.Listing.{listed_claimed}
use Rattle.hm_store_shared.proofs.listed.Listed.claim.Goals as goal

pub invariant_of-self : goal.invariant_of-self
invariant_of-self g c = (subst (λ (b : Build). IsListed b c.self.inside.front) (sym c.claim.ensures.step) (listed_claimed c.self.inside.store c.self.inside.front c.args.worker c.claim.result c.self.invariant.0), same_claimed c.self.inside.store _ c.args.worker c.claim.result c.claim.ensures.step c.self.invariant.1)
