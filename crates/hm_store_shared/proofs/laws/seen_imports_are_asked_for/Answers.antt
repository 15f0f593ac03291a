use Rattle.hm_store_shared.proofs.SeenImports.{seen_are_asked_for}
use Rattle.hm_store_shared.proofs.laws.seen_imports_are_asked_for.Goals as goal

pub returns : goal.returns
returns c = seen_are_asked_for c.steps_settle_a_set.ensures.asked
