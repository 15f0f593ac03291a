use Rattle.hm_names.proofs.Elaboration.{filled_type}
use Rattle.hm_names.proofs.laws.expansion_of_synonyms.Goals as goal

pub returns : goal.returns
returns c = filled_type
