use Rattle.std.specs.Prelude.{◌+◌, ◌*◌, ◌≡◌}
use Rattle.std.proofs.Common.{rules, subst}
use Rattle.hm_syntax.specs.Sizes.{alternative_size, declaration_size, expression_size}
use Rattle.hm_syntax.specs.declared.ast.Alt.TheDeep.{deep-ExprKind}
use Rattle.hm_syntax.proofs.Drops.{less, less_before, less_behind}
use Rattle.hm_syntax.proofs.+expr_drop.Goals as goal

pub ast::ExprKind::drop-drop-decls-requires : goal.ast::ExprKind::drop-drop-decls-requires
ast::ExprKind::drop-drop-decls-requires t c κs = (
  (
    (
      less_before (λ y. declaration_size y + 1) c.in-Let._decls.items (expression_size c.in-Let._body.value + 1) t
          (subst (λ k. 2 * deep-ExprKind k + 1 ≡ t) c.in-Let.is c.decreases),
      tt,
    ),
    tt,
  ),
  search rules,
)

pub ast::ExprKind::drop-drop-alts-requires : goal.ast::ExprKind::drop-drop-alts-requires
ast::ExprKind::drop-drop-alts-requires t c κs = (
  (
    (
      less_behind (λ y. alternative_size y + 1) c.in-Case._alts.items (expression_size c.in-Case._subject.value + 1) t
          (subst (λ k. 2 * deep-ExprKind k + 1 ≡ t) c.in-Case.is c.decreases),
      tt,
    ),
    tt,
  ),
  search rules,
)

pub ast::ExprKind::drop-drop-parts-requires : goal.ast::ExprKind::drop-drop-parts-requires
ast::ExprKind::drop-drop-parts-requires t c κs =
    (((less (λ y. expression_size y + 1) c.in-Tuple._parts.items t (subst (λ k. 2 * deep-ExprKind k + 1 ≡ t) c.in-Tuple.is c.decreases), tt), tt), search rules)

pub ast::ExprKind::drop-drop-elements-requires : goal.ast::ExprKind::drop-drop-elements-requires
ast::ExprKind::drop-drop-elements-requires t c κs =
    (((less (λ y. expression_size y + 1) c.in-List._elements.items t (subst (λ k. 2 * deep-ExprKind k + 1 ≡ t) c.in-List.is c.decreases), tt), tt), search rules)
