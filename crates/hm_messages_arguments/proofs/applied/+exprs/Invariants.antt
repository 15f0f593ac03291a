use Rattle.std.proofs.Common.{◌≡◌, ◌++◌, ◌+◌, ◌*◌, drop, map}
use Rattle.hm_syntax.specs.Lists.{expressions, alternatives, declarations, bodies}
use Rattle.hm_syntax.specs.Sizes.{expression_size, expressions_size, alternatives_size, right_side_size, bodies_size, declaration_size, declarations_size}
use Rattle.hm_names.specs.Found.{guard_size}
use Rattle.hm_messages_arguments.specs.Applied.{applied_of, expressions_applied, alternatives_applied, bodies_of_applied, declarations_applied, list_applied}
use Rattle.hm_messages_arguments.proofs.applied.+exprs.Given as goal

abbrev pub decreases-add_expr : goal.decreases-add_expr
decreases-add_expr l = 2 * expression_size l.expr.now

abbrev pub decreases-add_exprs : goal.decreases-add_exprs
decreases-add_exprs l = 2 * expressions_size (expressions l.row.now)

abbrev pub decreases-add_alts : goal.decreases-add_alts
decreases-add_alts l = 2 * alternatives_size (alternatives l.row.now)

abbrev pub decreases-add_rhs : goal.decreases-add_rhs
decreases-add_rhs l = 2 * right_side_size l.rhs.now

abbrev pub decreases-add_bodies : goal.decreases-add_bodies
decreases-add_bodies l = 2 * bodies_size (bodies l.row.now)

abbrev pub decreases-add_guard : goal.decreases-add_guard
decreases-add_guard l = 2 * guard_size l.guard.now + 1

abbrev pub decreases-add_list : goal.decreases-add_list
decreases-add_list l = 2 * declarations_size (declarations l.decls.now) + 1

abbrev pub decreases-add_decl : goal.decreases-add_decl
decreases-add_decl l = 2 * declaration_size l.decl.now

abbrev pub invariant-add_exprs-row : goal.invariant-add_exprs-row
invariant-add_exprs-row l = map applied_of l.out.items ++ expressions_applied (expressions (drop l.expr-index l.row)) ≡ map applied_of l.fn.out.items ++ expressions_applied (expressions l.row)

abbrev pub invariant-add_alts-row : goal.invariant-add_alts-row
invariant-add_alts-row l = map applied_of l.out.items ++ alternatives_applied (alternatives (drop l.alt-index l.row)) ≡ map applied_of l.fn.out.items ++ alternatives_applied (alternatives l.row)

abbrev pub invariant-add_bodies-row : goal.invariant-add_bodies-row
invariant-add_bodies-row l = map applied_of l.out.items ++ bodies_of_applied (drop l.part-index l.row) ≡ map applied_of l.fn.out.items ++ bodies_of_applied l.row

abbrev pub invariant-add_list-row : goal.invariant-add_list-row
invariant-add_list-row l = map applied_of l.out.items ++ declarations_applied (declarations (drop l.decl-index l.decls)) ≡ map applied_of l.fn.out.items ++ list_applied l.decls
