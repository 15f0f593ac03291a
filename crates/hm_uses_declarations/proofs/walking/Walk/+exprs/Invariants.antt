use Rattle.std.proofs.Common.{◌≡◌, ◌+◌, ◌*◌, drop}
use Rattle.hm_syntax.specs.Lists.{expressions, alternatives, declarations, bodies}
use Rattle.hm_syntax.specs.Sizes.{expression_size, expressions_size, alternative_size, alternatives_size, right_side_size, bodies_size, declaration_size, declarations_size}
use Rattle.hm_names.specs.Found.{guard_size}
use Rattle.hm_uses.specs.Found.{expressions_uses, alternatives_uses, declarations_uses}
use Rattle.hm_uses_declarations.specs.Walking.{adding, all_of, home_of, parts_uses}
use Rattle.hm_uses_declarations.proofs.walking.Walk.+exprs.Given as goal

abbrev pub decreases-expr : goal.decreases-expr
decreases-expr l = 3 * expression_size l.expr.now

abbrev pub decreases-expr_row : goal.decreases-expr_row
decreases-expr_row l = 3 * expressions_size (expressions l.row.now)

abbrev pub decreases-apply : goal.decreases-apply
decreases-apply l = 3 * (expression_size l.function.now + expression_size l.argument.now) + 1

abbrev pub decreases-lambda : goal.decreases-lambda
decreases-lambda l = 3 * expression_size l.body.now + 1

abbrev pub decreases-let_in : goal.decreases-let_in
decreases-let_in l = 3 * (declarations_size (declarations l.local.now) + expression_size l.body.now) + 2

abbrev pub decreases-if_then_else : goal.decreases-if_then_else
decreases-if_then_else l = 3 * (expression_size l.test.now + expression_size l.consequence.now + expression_size l.alternative.now) + 1

abbrev pub decreases-case_of : goal.decreases-case_of
decreases-case_of l = 3 * (expression_size l.subject.now + alternatives_size (alternatives l.alts.now)) + 1

abbrev pub decreases-typed : goal.decreases-typed
decreases-typed l = 3 * expression_size l.inner.now + 1

abbrev pub decreases-alt : goal.decreases-alt
decreases-alt l = 3 * alternative_size l.alt.now

abbrev pub decreases-alt_row : goal.decreases-alt_row
decreases-alt_row l = 3 * alternatives_size (alternatives l.row.now)

abbrev pub decreases-rhs : goal.decreases-rhs
decreases-rhs l = 3 * right_side_size l.rhs.now

abbrev pub decreases-part_row : goal.decreases-part_row
decreases-part_row l = 3 * bodies_size (bodies l.row.now)

abbrev pub decreases-part : goal.decreases-part
decreases-part l = 3 * (guard_size l.part.now.0 + expression_size l.part.now.1) + 2

abbrev pub decreases-guard : goal.decreases-guard
decreases-guard l = 3 * guard_size l.guard.now + 1

abbrev pub decreases-decl : goal.decreases-decl
decreases-decl l = 3 * declaration_size l.decl.now

abbrev pub decreases-clause : goal.decreases-clause
decreases-clause l = 3 * right_side_size l.rhs.now + 1

abbrev pub decreases-binding : goal.decreases-binding
decreases-binding l = 3 * right_side_size l.rhs.now + 1

abbrev pub decreases-decl_row : goal.decreases-decl_row
decreases-decl_row l = 3 * declarations_size (declarations l.row.now)

abbrev pub invariant-expr_row-row : goal.invariant-expr_row-row
invariant-expr_row-row l = record {
  state : adding (expressions_uses l.fn.self.known (all_of l.fn.self.groups) (expressions (drop l.expr-index l.row))) l.self ≡ adding (expressions_uses l.fn.self.known (all_of l.fn.self.groups) (expressions l.row)) l.fn.self;
  known : l.self.known ≡ l.fn.self.known;
  groups : l.self.groups ≡ l.fn.self.groups;
}

abbrev pub invariant-alt_row-row : goal.invariant-alt_row-row
invariant-alt_row-row l = record {
  state : adding (alternatives_uses l.fn.self.known (all_of l.fn.self.groups) (alternatives (drop l.alt-index l.row))) l.self ≡ adding (alternatives_uses l.fn.self.known (all_of l.fn.self.groups) (alternatives l.row)) l.fn.self;
  known : l.self.known ≡ l.fn.self.known;
  groups : l.self.groups ≡ l.fn.self.groups;
}

abbrev pub invariant-part_row-row : goal.invariant-part_row-row
invariant-part_row-row l = record {
  state : adding (parts_uses l.fn.self.known (all_of l.fn.self.groups) (drop l.part-index l.row)) l.self ≡ adding (parts_uses l.fn.self.known (all_of l.fn.self.groups) l.row) l.fn.self;
  known : l.self.known ≡ l.fn.self.known;
  groups : l.self.groups ≡ l.fn.self.groups;
}

abbrev pub invariant-decl_row-row : goal.invariant-decl_row-row
invariant-decl_row-row l = record {
  state : adding (declarations_uses l.fn.self.known (all_of l.fn.self.groups) (home_of l.fn.self.groups) (declarations (drop l.decl-index l.row))) l.self ≡ adding (declarations_uses l.fn.self.known (all_of l.fn.self.groups) (home_of l.fn.self.groups) (declarations l.row)) l.fn.self;
  known : l.self.known ≡ l.fn.self.known;
  groups : l.self.groups ≡ l.fn.self.groups;
}
