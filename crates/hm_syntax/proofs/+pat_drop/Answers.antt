use Rattle.std.specs.Prelude.{◌+◌, ◌*◌, ◌≡◌}
use Rattle.std.proofs.Common.{rules, subst}
use Rattle.hm_syntax.specs.Sizes.{pattern_size}
use Rattle.hm_syntax.specs.declared.ast.Pat.TheDeep.{deep-PatKind}
use Rattle.hm_syntax.proofs.Drops.{less}
use Rattle.hm_syntax.proofs.+pat_drop.Goals as goal

pub ast::PatKind::drop-drop-pats-requires : goal.ast::PatKind::drop-drop-pats-requires
ast::PatKind::drop-drop-pats-requires t c κs =
    (((less (λ y. pattern_size y + 1) c.in-Con._pats.items t (subst (λ k. 2 * deep-PatKind k + 1 ≡ t) c.in-Con.is c.decreases), tt), tt), search rules)

pub ast::PatKind::drop-drop-pats-requires-in-Tuple : goal.ast::PatKind::drop-drop-pats-requires-in-Tuple
ast::PatKind::drop-drop-pats-requires-in-Tuple t c κs =
    (((less (λ y. pattern_size y + 1) c.in-Tuple._pats.items t (subst (λ k. 2 * deep-PatKind k + 1 ≡ t) c.in-Tuple.is c.decreases), tt), tt), search rules)

pub ast::PatKind::drop-drop-pats-requires-in-List : goal.ast::PatKind::drop-drop-pats-requires-in-List
ast::PatKind::drop-drop-pats-requires-in-List t c κs =
    (((less (λ y. pattern_size y + 1) c.in-List._pats.items t (subst (λ k. 2 * deep-PatKind k + 1 ≡ t) c.in-List.is c.decreases), tt), tt), search rules)
