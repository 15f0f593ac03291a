use Rattle.std.proofs.Common.{◌+◌, ◌*◌, ◌<◌, refl, ◌∙◌, rules, arith}
use Rattle.hm_types.specs.Monotypes.{size, list_size}
use Rattle.hm_types.specs.Shape.{type_of, types_of}
use Rattle.hm_types.proofs.Matched.{args_smaller, item_smaller}
use Rattle.std.proofs.lemmas.Bool.{eq-eqb}
use Rattle.hm_types_display.proofs.Written.{named_bracketed}
use Rattle.hm_types_display.proofs.printing.+text.Goals as goal

pub write_named-returns-then-not-is_empty : goal.write_named-returns-then-not-is_empty
write_named-returns-then-not-is_empty t c =
    named_bracketed c.args.position _ c.args.entity.now c.args.arguments.now _ _ refl (search rules) (λ none. cc (c.if-not-is_empty.ensures ∙ eq-eqb _ _ none)) (search rules)

pub write_rest-write_type-requires : goal.write_rest-write_type-requires
write_rest-write_type-requires t c =
    let smaller = item_smaller _ _ c.t-item.result c.loop-t-test.true c.t-item.is in
    let measure : 4 * size (type_of c.t-item.result) < 4 * list_size (types_of c.args.types.now) = omega (arith, smaller) in
    search rules

pub write_type-write_applied-requires : goal.write_type-write_applied-requires
write_type-write_applied-requires t c =
    let smaller = args_smaller c.args.t.now c.in-App.head _ c.as_slice.result.now c.in-App.is c.as_slice.ensures in
    let measure : 4 * list_size (types_of c.as_slice.result.now) + 3 < 4 * size (type_of c.args.t.now) = omega (arith, smaller) in
    search rules
