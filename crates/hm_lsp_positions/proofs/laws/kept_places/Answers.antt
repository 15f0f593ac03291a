use Rattle.hm_lsp_positions.proofs.Returns.{same_place}
use Rattle.hm_lsp_positions.proofs.laws.kept_places.Goals as goal

pub returns : goal.returns
returns c = same_place
