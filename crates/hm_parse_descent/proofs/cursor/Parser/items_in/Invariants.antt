use Rattle.std.proofs.Common.{◌≡◌, length}
use Rattle.hm_parse_grammar.specs.Reading.Basics.{loop, behind}
use Rattle.hm_parse_grammar.specs.Reading.Headers.{next_item}
use Rattle.hm_parse_descent.proofs.cursor.Parser.items_in.Given as goal

abbrev pub invariant-items : goal.invariant-items
invariant-items l = behind l.items.items (loop next_item l.self) ≡ loop next_item l.fn.self

abbrev pub decreases-items : goal.decreases-items
decreases-items l = length l.self
