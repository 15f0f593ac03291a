use Rattle.hm_scope_resolve.proofs.Walks.{matched}
use Rattle.hm_scope_resolve.proofs.resolving.Resolving.head.Goals as goal

pub returns-clause-trees : goal.returns-clause-trees
returns-clause-trees c = matched c.args.self.now c.repeated.new.self _ c.args.pats.now _ c.in_ok-repeated.ensures c.in_ok-resolved.ensures.trees
