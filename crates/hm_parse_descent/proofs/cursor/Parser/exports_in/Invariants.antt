use Rattle.std.proofs.Common.{◌≡◌, length}
use Rattle.hm_parse_grammar.specs.Reading.Basics.{loop, behind}
use Rattle.hm_parse_grammar.specs.Reading.Headers.{next_export}
use Rattle.hm_parse_descent.proofs.cursor.Parser.exports_in.Given as goal

abbrev pub invariant-exports : goal.invariant-exports
invariant-exports l = behind l.items.items (loop next_export l.self) ≡ loop next_export l.fn.self

abbrev pub decreases-exports : goal.decreases-exports
decreases-exports l = length l.self
