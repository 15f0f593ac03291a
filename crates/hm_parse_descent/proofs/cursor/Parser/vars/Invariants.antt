use Rattle.std.proofs.Common.{◌≡◌, length, [], ◌∷◌}
use Rattle.hm_parse_grammar.specs.Reading.Basics.{loop, behind, next_of}
use Rattle.hm_parse_grammar.specs.Reading.Expressions.{var_at}
use Rattle.hm_parse_descent.proofs.cursor.Parser.vars.Given as goal

abbrev pub invariant-vars : goal.invariant-vars
invariant-vars l = behind l.found.items (loop (next_of var_at) l.self) ≡ behind (l.fn.first ∷ []) (loop (next_of var_at) l.fn.self)

abbrev pub decreases-vars : goal.decreases-vars
decreases-vars l = length l.self
