use Rattle.std.specs.Prelude.{◌+◌, ◌*◌, ◌≡◌}
use Rattle.std.proofs.Common.{rules, subst}
use Rattle.hm_syntax.specs.Sizes.{type_size}
use Rattle.hm_syntax.specs.declared.ast.TypeExpr.TheDeep.{deep-TypeKind}
use Rattle.hm_syntax.proofs.Drops.{less}
use Rattle.hm_syntax.proofs.+type_drop.Goals as goal

pub ast::TypeKind::drop-drop-types-requires : goal.ast::TypeKind::drop-drop-types-requires
ast::TypeKind::drop-drop-types-requires t c κs =
    (((less (λ y. type_size y + 1) c.in-Con._types.items t (subst (λ k. 2 * deep-TypeKind k + 1 ≡ t) c.in-Con.is c.decreases), tt), tt), search rules)

pub ast::TypeKind::drop-drop-types-requires-in-Tuple : goal.ast::TypeKind::drop-drop-types-requires-in-Tuple
ast::TypeKind::drop-drop-types-requires-in-Tuple t c κs =
    (((less (λ y. type_size y + 1) c.in-Tuple._types.items t (subst (λ k. 2 * deep-TypeKind k + 1 ≡ t) c.in-Tuple.is c.decreases), tt), tt), search rules)
