use Rattle.std.proofs.Common.{subst, sym}
use Rattle.hm_store_shared.specs.Listings.{IsListed}
use Rattle.hm_store_shared.proofs.Listing.{listed_none}
use Rattle.hm_store_shared.proofs.shared.Shared.new.Goals as goal

pub new-requires-clause-listed : goal.new-requires-clause-listed
new-requires-clause-listed g c = subst (IsListed c.args.store) (sym c.named-history.ensures) (listed_none c.args.store c.entries-entries.ensures.legal c.requires.empty)
