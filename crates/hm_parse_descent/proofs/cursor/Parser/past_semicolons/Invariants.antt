use Rattle.std.proofs.Common.{◌≡◌, length}
use Rattle.hm_parse_grammar.specs.Reading.Basics.{past_semicolons}
use Rattle.hm_parse_descent.proofs.cursor.Parser.past_semicolons.Given as goal

abbrev pub invariant-semicolons : goal.invariant-semicolons
invariant-semicolons l = past_semicolons l.self ≡ past_semicolons l.fn.self

abbrev pub decreases-semicolons : goal.decreases-semicolons
decreases-semicolons l = length l.self
