use Rattle.hm_infer_dependencies.proofs.ByDeclarations.{by_declarations}
use Rattle.hm_infer_dependencies.proofs.laws.groups_ask_of_declarations.Goals as goal

pub returns : goal.returns
returns c = by_declarations
