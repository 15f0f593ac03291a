use Rattle.hm_infer_generalisation.proofs.DeclaredTypes.{declared_is, declared_is_given}
use Rattle.hm_infer_generalisation.proofs.declared.declare.Goals as goal

pub returns : goal.returns
returns c = record {
  body = declared_is _ _ c.in_ok-declared_type.ensures.body;
  given = declared_is_given _ _ _ c.in_ok-declared_type.ensures.body c.in_ok-declared_type.ensures.below c.in_ok-declared_type.ensures.arities;
}
