use Rattle.std.proofs.Common.{◌≡◌, length}
use Rattle.hm_parse_grammar.specs.Reading.Basics.{loop, behind}
use Rattle.hm_parse_grammar.specs.Reading.TypeDeclarations.{next_constr}
use Rattle.hm_parse_descent.proofs.cursor.Parser.constrs.Given as goal

abbrev pub invariant-constrs : goal.invariant-constrs
invariant-constrs l = behind l.found.items (loop next_constr l.self) ≡ behind l.initial.found.items (loop next_constr l.initial.self)

abbrev pub decreases-constrs : goal.decreases-constrs
decreases-constrs l = length l.self
