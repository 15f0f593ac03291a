use Rattle.std.proofs.Common.{◌≡◌, ◌+◌, ◌*◌, ◌≤◌, length}
use Rattle.hm_parse_grammar.specs.Reading.Basics.{loop, behind}
use Rattle.hm_parse_grammar.specs.Reading.Types.{tuple_of_types, type_in, next_atype, type_at}
use Rattle.hm_parse_descent.proofs.CommaLoops.{tuple_rest}
use Rattle.hm_parse_descent.proofs.cursor.Parser.+type_exprs.Given as goal

abbrev pub decreases-type_expr : goal.decreases-type_expr
decreases-type_expr l = 10 * length l.self.now + 6

abbrev pub decreases-btype : goal.decreases-btype
decreases-btype l = 10 * length l.self.now + 5

abbrev pub decreases-atypes : goal.decreases-atypes
decreases-atypes l = 10 * length l.self.now + 5

abbrev pub decreases-atype : goal.decreases-atype
decreases-atype l = 10 * length l.self.now + 3

abbrev pub decreases-type_in : goal.decreases-type_in
decreases-type_in l = 10 * length l.self.now + 7

abbrev pub invariant-atypes-atypes : goal.invariant-atypes-atypes
invariant-atypes-atypes l = record {
  read : behind l.found.items (loop (next_atype type_at) l.self) ≡ loop (next_atype type_at) l.fn.self;
  left : length l.self ≤ length l.fn.self;
}

abbrev pub decreases-atypes-atypes : goal.decreases-atypes-atypes
decreases-atypes-atypes l = length l.self

abbrev pub invariant-type_in-components : goal.invariant-type_in-components
invariant-type_in-components l = record {
  read : tuple_rest type_at tuple_of_types l.found.items l.self ≡ type_in type_at l.fn.self;
  few : length l.found.items ≤ 15;
  left : length l.self ≤ length l.fn.self;
}

abbrev pub decreases-type_in-components : goal.decreases-type_in-components
decreases-type_in-components l = length l.self
