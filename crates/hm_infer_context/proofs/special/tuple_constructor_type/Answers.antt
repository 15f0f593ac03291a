use Rattle.hm_types.specs.Shape.{type_of}
use Rattle.hm_infer_context.proofs.SpecialTypes.{tuple_type_is}
use Rattle.hm_infer_context.proofs.special.tuple_constructor_type.Goals as goal

pub returns : goal.returns
returns c = tuple_type_is c.args.count (type_of c.in_ok-outcome.outcome) (type_of c.in_ok-function_type.field-0) c.in_ok-outcome.ensures.shape c.in_ok-function_type.ensures.shape
