use Rattle.std.proofs.Common.{◌≡◌, ◌∙◌, ap, rules, option_map}
use Rattle.hm_types.specs.Shape.{type_of}
use Rattle.hm_names.specs.Special.{special_arity, special_text, tuple_of}
use Rattle.hm_infer_context.proofs.SpecialTypes.{sized}
use Rattle.hm_infer_context.proofs.special.special_type.Goals as goal

pub returns-in_ok-tuple_constructor_type-in-Some : goal.returns-in_ok-tuple_constructor_type-in-Some
returns-in_ok-tuple_constructor_type-in-Some c =
    let other : special_text c.args.text.now ≡ tuple_of c.args.text.now = search rules in
    sized c.args.text.now c.in-Some.count c.tuple_arity.result (type_of c.in_ok-tuple_constructor_type-in-Some.field-0) other (c.tuple_arity.ensures ∙ ap (λ x. option_map special_arity (tuple_of x)) c.as_bytes.ensures.value) c.in-Some.is c.in_ok-tuple_constructor_type-in-Some.ensures
