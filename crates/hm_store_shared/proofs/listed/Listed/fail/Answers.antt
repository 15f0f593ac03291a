use Rattle.hm_store_shared.proofs.JobImports.{same_settled}
use Rattle.hm_store_shared.proofs.Listing.{listed_failed}
use Rattle.hm_store_shared.proofs.listed.Listed.fail.Goals as goal

pub invariant_of-self : goal.invariant_of-self
invariant_of-self g c = (listed_failed c.self.inside.store c.self.inside.front c.args.worker c.args.number c.args.outcome c.entries-entries.ensures.legal c.requires c.self.invariant.0 c.fail.new.self c.fail.result c.fail.ensures.settles, same_settled c.self.inside.store c.fail.new.self c.args.worker c.args.number c.args.outcome _ c.fail.result c.fail.ensures.settles c.self.invariant.1)
