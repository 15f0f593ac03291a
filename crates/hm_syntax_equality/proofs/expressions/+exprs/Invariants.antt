use Rattle.std.proofs.Common.{◌≡◌, take, length, ◌*◌, ◌+◌}
use Rattle.hm_syntax.specs.Sizes.{expression_size, expressions_size, declaration_size, declarations_size, alternative_size, alternatives_size, right_side_size, bodies_size}
use Rattle.hm_syntax.specs.Lists.{expressions, declarations, alternatives, bodies}
use Rattle.hm_syntax_equality.proofs.Falls.{part_size}
use Rattle.hm_syntax_equality.proofs.expressions.+exprs.Given as goal

abbrev pub decreases-is_same_expr : goal.decreases-is_same_expr
decreases-is_same_expr l = 2 * expression_size l.expr.now

abbrev pub decreases-are_same_exprs : goal.decreases-are_same_exprs
decreases-are_same_exprs l = 2 * expressions_size (expressions l.lefts.now)

abbrev pub decreases-is_same_alt : goal.decreases-is_same_alt
decreases-is_same_alt l = 2 * alternative_size l.alt.now

abbrev pub decreases-are_same_alts : goal.decreases-are_same_alts
decreases-are_same_alts l = 2 * alternatives_size (alternatives l.lefts.now)

abbrev pub decreases-is_same_rhs : goal.decreases-is_same_rhs
decreases-is_same_rhs l = 2 * right_side_size l.rhs.now

abbrev pub decreases-is_same_part : goal.decreases-is_same_part
decreases-is_same_part l = 2 * part_size l.part.now + 1

abbrev pub decreases-are_same_parts : goal.decreases-are_same_parts
decreases-are_same_parts l = 2 * bodies_size (bodies l.lefts.now)

abbrev pub decreases-is_same_decl : goal.decreases-is_same_decl
decreases-is_same_decl l = 2 * declaration_size l.decl.now

abbrev pub decreases-is_clause : goal.decreases-is_clause
decreases-is_clause l = 2 * right_side_size l.rhs.now + 1

abbrev pub decreases-is_pattern_binding : goal.decreases-is_pattern_binding
decreases-is_pattern_binding l = 2 * right_side_size l.rhs.now + 1

abbrev pub decreases-are_same_decls : goal.decreases-are_same_decls
decreases-are_same_decls l = 2 * declarations_size (declarations l.lefts.now)

abbrev pub invariant-are_same_exprs-row : goal.invariant-are_same_exprs-row
invariant-are_same_exprs-row l = record {
  as_many : length l.lefts ≡ length l.rights;
  same : take l.i l.lefts ≡ take l.i l.rights;
}

abbrev pub invariant-are_same_alts-row : goal.invariant-are_same_alts-row
invariant-are_same_alts-row l = record {
  as_many : length l.lefts ≡ length l.rights;
  same : take l.i l.lefts ≡ take l.i l.rights;
}

abbrev pub invariant-are_same_parts-row : goal.invariant-are_same_parts-row
invariant-are_same_parts-row l = record {
  as_many : length l.lefts ≡ length l.rights;
  same : take l.i l.lefts ≡ take l.i l.rights;
}

abbrev pub invariant-are_same_decls-row : goal.invariant-are_same_decls-row
invariant-are_same_decls-row l = record {
  as_many : length l.lefts ≡ length l.rights;
  same : take l.i l.lefts ≡ take l.i l.rights;
}
