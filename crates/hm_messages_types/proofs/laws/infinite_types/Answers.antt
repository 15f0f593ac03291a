use Rattle.hm_messages_types.proofs.NoFiniteType.{no_common_instance}
use Rattle.hm_messages_types.proofs.laws.infinite_types.Goals as goal

pub returns : goal.returns
returns c = no_common_instance
