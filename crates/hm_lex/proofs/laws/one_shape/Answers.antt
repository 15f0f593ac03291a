use Rattle.hm_lex.proofs.OneShape.{shape_unique}
use Rattle.hm_lex.proofs.laws.one_shape.Goals as goal

pub returns : goal.returns
returns c = shape_unique
