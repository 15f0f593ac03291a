use Rattle.hm_store.proofs.Settling.{settled_build}
use Rattle.hm_store.proofs.laws.settled_builds_are_settled_sets.Goals as goal

pub returns : goal.returns
returns c = settled_build
