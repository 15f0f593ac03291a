use Rattle.std.proofs.Common.{◌≡◌, ◌+◌, ◌*◌, ◌<◌, ◌≤◌, length}
use Rattle.hm_parse_grammar.specs.declared.symbol.Symbol.TheVariants.{Open}
use Rattle.hm_parse_grammar.specs.Reading.Basics.{loop, behind, list_in}
use Rattle.hm_parse_grammar.specs.Reading.Expressions.{tuple_of_expressions, list_of_expressions, exp_with, aexp_by, args_from, opd_with, behind_operands, link, next_guarded, bodies_with, alt_with, alts_with, decl_with, next_item_of, all_expressions}
use Rattle.hm_parse_descent.proofs.CommaLoops.{tuple_rest, list_rest}
use Rattle.hm_parse_descent.proofs.cursor.Parser.+exprs.Given as goal

abbrev pub decreases-exp : goal.decreases-exp
decreases-exp l = 10 * length l.self.now + 9

abbrev pub decreases-boxed_exp : goal.decreases-boxed_exp
decreases-boxed_exp l = 10 * length l.self.now + 10

abbrev pub decreases-chain : goal.decreases-chain
decreases-chain l = 10 * length l.self.now + 8

abbrev pub decreases-open_exp : goal.decreases-open_exp
decreases-open_exp l = 10 * length l.self.now + 6

abbrev pub decreases-colons : goal.decreases-colons
decreases-colons l = 10 * length l.self.now + 8

abbrev pub invariant-colons-colons : goal.invariant-colons-colons
invariant-colons-colons l = record {
  read : behind_operands l.operands.items (link all_expressions l.last l.self) ≡ link all_expressions l.fn.first l.fn.self;
  left : length l.self ≤ length l.fn.self;
}

abbrev pub decreases-colons-colons : goal.decreases-colons-colons
decreases-colons-colons l = length l.self

abbrev pub decreases-lambda : goal.decreases-lambda
decreases-lambda l = 10 * length l.self.now + 1

abbrev pub decreases-let_in : goal.decreases-let_in
decreases-let_in l = 10 * length l.self.now + 3

abbrev pub decreases-if_then_else : goal.decreases-if_then_else
decreases-if_then_else l = 10 * length l.self.now + 11

abbrev pub decreases-operand : goal.decreases-operand
decreases-operand l = 10 * length l.self.now + 6

abbrev pub decreases-case_of : goal.decreases-case_of
decreases-case_of l = 10 * length l.self.now + 11

abbrev pub decreases-alts : goal.decreases-alts
decreases-alts l = 10 * length l.self.now + 4

abbrev pub decreases-rhs : goal.decreases-rhs
decreases-rhs l = 10 * length l.self.now + 4

abbrev pub decreases-bodies : goal.decreases-bodies
decreases-bodies l = 10 * length l.self.now + 3

abbrev pub decreases-guarded : goal.decreases-guarded
decreases-guarded l = 10 * length l.self.now + 10

abbrev pub decreases-aexp : goal.decreases-aexp
decreases-aexp l = 10 * length l.self.now + 5

abbrev pub decreases-exp_in : goal.decreases-exp_in
decreases-exp_in l = 10 * length l.self.now + 4

abbrev pub decreases-exp_list : goal.decreases-exp_list
decreases-exp_list l = 10 * length l.self.now + 10

abbrev pub decreases-decls : goal.decreases-decls
decreases-decls l = 10 * length l.self.now + 2

abbrev pub decreases-decl : goal.decreases-decl
decreases-decl l = 10 * length l.self.now + 3

abbrev pub decreases-binding : goal.decreases-binding
decreases-binding l = 10 * length l.self.now + 2

abbrev pub invariant-operand-apply : goal.invariant-operand-apply
invariant-operand-apply l = record {
  read : args_from all_expressions l.head l.self ≡ opd_with all_expressions l.fn.self;
  left : length l.self ≤ length l.fn.self;
}

abbrev pub decreases-operand-apply : goal.decreases-operand-apply
decreases-operand-apply l = length l.self

abbrev pub invariant-exp_in-components : goal.invariant-exp_in-components
invariant-exp_in-components l = record {
  read : tuple_rest (exp_with all_expressions) tuple_of_expressions l.found.items l.self ≡ aexp_by all_expressions Open l.fn.self;
  few : length l.found.items ≤ 15;
  left : length l.self < length l.fn.self;
}

abbrev pub decreases-exp_in-components : goal.decreases-exp_in-components
decreases-exp_in-components l = length l.self

abbrev pub invariant-exp_list-elements : goal.invariant-exp_list-elements
invariant-exp_list-elements l = record {
  read : list_rest (exp_with all_expressions) list_of_expressions l.found.items l.self ≡ list_in (exp_with all_expressions) list_of_expressions l.fn.self;
  left : length l.self < length l.fn.self;
}

abbrev pub decreases-exp_list-elements : goal.decreases-exp_list-elements
decreases-exp_list-elements l = length l.self

abbrev pub invariant-bodies-guards : goal.invariant-bodies-guards
invariant-bodies-guards l = record {
  read : behind l.found.items (loop (next_guarded all_expressions l.fn.mark) l.self) ≡ bodies_with all_expressions l.fn.mark l.fn.self;
  left : length l.self ≤ length l.fn.self;
}

abbrev pub decreases-bodies-guards : goal.decreases-bodies-guards
decreases-bodies-guards l = length l.self

abbrev pub invariant-alts-alts : goal.invariant-alts-alts
invariant-alts-alts l = record {
  read : behind l.found.items (loop (next_item_of (alt_with all_expressions)) l.self) ≡ alts_with all_expressions l.fn.self;
  left : length l.self ≤ length l.fn.self;
}

abbrev pub decreases-alts-alts : goal.decreases-alts-alts
decreases-alts-alts l = length l.self

abbrev pub invariant-decls-decls : goal.invariant-decls-decls
invariant-decls-decls l = record {
  read : behind l.found.items (loop (next_item_of (decl_with all_expressions)) l.self) ≡ all_expressions.decls l.fn.self;
  left : length l.self < length l.fn.self;
}

abbrev pub decreases-decls-decls : goal.decreases-decls-decls
decreases-decls-decls l = length l.self
