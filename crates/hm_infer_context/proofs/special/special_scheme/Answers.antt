use Rattle.std.proofs.Common.{◌∙◌, ap, sym, option_map}
use Rattle.hm_types.specs.Shape.{type_of}
use Rattle.hm_names.specs.Special.{special_text}
use Rattle.hm_infer_context.proofs.SpecialTypes.{found_no_rigid, found_arities}
use Rattle.hm_infer_context.proofs.special.special_scheme.Goals as goal

pub canonical-requires-clause-not_rigid : goal.canonical-requires-clause-not_rigid
canonical-requires-clause-not_rigid c = found_no_rigid (special_text c.as_str.result.now) (type_of c.in-Some-2.ty) (sym (ap (option_map type_of) c.in-Some-2.is) ∙ c.in_ok-special_type-in-None.ensures)

pub canonical-requires-clause-arities : goal.canonical-requires-clause-arities
canonical-requires-clause-arities c = found_arities (special_text c.as_str.result.now) (type_of c.in-Some-2.ty) (sym (ap (option_map type_of) c.in-Some-2.is) ∙ c.in_ok-special_type-in-None.ensures)
