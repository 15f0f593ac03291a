use Rattle.std.proofs.Common.{◌≡◌, ◌+◌, ◌*◌, ◌<◌, ◌≤◌, length}
use Rattle.hm_parse_grammar.specs.declared.symbol.Symbol.TheVariants.{Open}
use Rattle.hm_parse_grammar.specs.Reading.Basics.{loop, behind, list_in}
use Rattle.hm_parse_grammar.specs.Reading.Patterns.{tuple_of_patterns, list_of_patterns, apat_by, next_apat, all_patterns}
use Rattle.hm_parse_descent.proofs.CommaLoops.{tuple_rest, list_rest}
use Rattle.hm_parse_descent.proofs.cursor.Parser.+pats.Given as goal

abbrev pub decreases-pat : goal.decreases-pat
decreases-pat l = 10 * length l.self.now + 6

abbrev pub decreases-lpat : goal.decreases-lpat
decreases-lpat l = 10 * length l.self.now + 5

abbrev pub decreases-apats : goal.decreases-apats
decreases-apats l = 10 * length l.self.now + 5

abbrev pub decreases-apat : goal.decreases-apat
decreases-apat l = 10 * length l.self.now + 3

abbrev pub decreases-bound_pat : goal.decreases-bound_pat
decreases-bound_pat l = 10 * length l.self.now + 2

abbrev pub decreases-pat_in : goal.decreases-pat_in
decreases-pat_in l = 10 * length l.self.now + 2

abbrev pub decreases-pat_list : goal.decreases-pat_list
decreases-pat_list l = 10 * length l.self.now + 7

abbrev pub invariant-apats-apats : goal.invariant-apats-apats
invariant-apats-apats l = record {
  read : behind l.found.items (loop (next_apat all_patterns) l.self) ≡ loop (next_apat all_patterns) l.fn.self;
  left : length l.self ≤ length l.fn.self;
}

abbrev pub decreases-apats-apats : goal.decreases-apats-apats
decreases-apats-apats l = length l.self

abbrev pub invariant-pat_in-components : goal.invariant-pat_in-components
invariant-pat_in-components l = record {
  read : tuple_rest all_patterns.whole tuple_of_patterns l.found.items l.self ≡ apat_by all_patterns Open l.fn.self;
  few : length l.found.items ≤ 15;
  left : length l.self < length l.fn.self;
}

abbrev pub decreases-pat_in-components : goal.decreases-pat_in-components
decreases-pat_in-components l = length l.self

abbrev pub invariant-pat_list-elements : goal.invariant-pat_list-elements
invariant-pat_list-elements l = record {
  read : list_rest all_patterns.whole list_of_patterns l.found.items l.self ≡ list_in all_patterns.whole list_of_patterns l.fn.self;
  left : length l.self < length l.fn.self;
}

abbrev pub decreases-pat_list-elements : goal.decreases-pat_list-elements
decreases-pat_list-elements l = length l.self
