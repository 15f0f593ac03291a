use Rattle.hm_infer_dependencies.proofs.Named.{names_unsigned}
use Rattle.hm_infer_dependencies.proofs.laws.nodes_are_names.Goals as goal

pub returns : goal.returns
returns c = names_unsigned
