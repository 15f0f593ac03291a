use Rattle.hm_uses_references.proofs.Referred.{one_list}
use Rattle.hm_uses_references.proofs.laws.one_list.Goals as goal

pub returns : goal.returns
returns c = one_list
