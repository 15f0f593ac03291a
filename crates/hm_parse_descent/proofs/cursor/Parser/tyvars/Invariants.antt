use Rattle.std.proofs.Common.{◌≡◌, length}
use Rattle.hm_parse_grammar.specs.Reading.Basics.{loop, behind}
use Rattle.hm_parse_grammar.specs.Reading.TypeDeclarations.{next_tyvar}
use Rattle.hm_parse_descent.proofs.cursor.Parser.tyvars.Given as goal

abbrev pub invariant-tyvars : goal.invariant-tyvars
invariant-tyvars l = behind l.found.items (loop next_tyvar l.self) ≡ loop next_tyvar l.fn.self

abbrev pub decreases-tyvars : goal.decreases-tyvars
decreases-tyvars l = length l.self
