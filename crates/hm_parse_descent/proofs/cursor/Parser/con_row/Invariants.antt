use Rattle.std.proofs.Common.{◌≡◌, length}
use Rattle.hm_parse_grammar.specs.Reading.Basics.{loop, behind}
use Rattle.hm_parse_grammar.specs.Reading.Headers.{next_con}
use Rattle.hm_parse_descent.proofs.cursor.Parser.con_row.Given as goal

abbrev pub invariant-cons : goal.invariant-cons
invariant-cons l = behind l.items.items (loop next_con l.self) ≡ behind l.initial.items.items (loop next_con l.initial.self)

abbrev pub decreases-cons : goal.decreases-cons
decreases-cons l = length l.self
