use Rattle.std.proofs.Common.{◌≡◌, ◌+◌, ◌*◌, ◌++◌, drop}
use Rattle.hm_syntax.specs.Lists.{expressions, alternatives, declarations, bodies}
use Rattle.hm_syntax.specs.Sizes.{expression_size, expressions_size, alternatives_size, right_side_size, bodies_size, declaration_size, declarations_size}
use Rattle.hm_names.specs.Found.{guard_size}
use Rattle.hm_scope.specs.UsedTypes.{expressions_types, alternatives_types, bodies_types, declarations_types}
use Rattle.hm_scope.proofs.used_types.+exprs.Given as goal

abbrev pub decreases-add_expr : goal.decreases-add_expr
decreases-add_expr l = 3 * expression_size l.expr.now

abbrev pub decreases-add_exprs : goal.decreases-add_exprs
decreases-add_exprs l = 3 * expressions_size (expressions l.row.now)

abbrev pub decreases-add_alts : goal.decreases-add_alts
decreases-add_alts l = 3 * alternatives_size (alternatives l.row.now)

abbrev pub decreases-add_rhs : goal.decreases-add_rhs
decreases-add_rhs l = 3 * right_side_size l.rhs.now

abbrev pub decreases-add_parts : goal.decreases-add_parts
decreases-add_parts l = 3 * bodies_size (bodies l.row.now)

abbrev pub decreases-add_part : goal.decreases-add_part
decreases-add_part l = 3 * (guard_size l.part.now.0 + expression_size l.part.now.1) + 1

abbrev pub decreases-add_decls : goal.decreases-add_decls
decreases-add_decls l = 3 * declarations_size (declarations l.row.now)

abbrev pub decreases-add_decl : goal.decreases-add_decl
decreases-add_decl l = 3 * declaration_size l.decl.now

abbrev pub invariant-add_exprs-row : goal.invariant-add_exprs-row
invariant-add_exprs-row l = l.out ++ expressions_types (expressions (drop l.expr-index l.row)) ≡ l.fn.out ++ expressions_types (expressions l.row)

abbrev pub invariant-add_alts-row : goal.invariant-add_alts-row
invariant-add_alts-row l = l.out ++ alternatives_types (alternatives (drop l.alt-index l.row)) ≡ l.fn.out ++ alternatives_types (alternatives l.row)

abbrev pub invariant-add_parts-row : goal.invariant-add_parts-row
invariant-add_parts-row l = l.out ++ bodies_types (bodies (drop l.part-index l.row)) ≡ l.fn.out ++ bodies_types (bodies l.row)

abbrev pub invariant-add_decls-row : goal.invariant-add_decls-row
invariant-add_decls-row l = l.out ++ declarations_types (declarations (drop l.decl-index l.row)) ≡ l.fn.out ++ declarations_types (declarations l.row)
