use Rattle.std.proofs.Common.{◌≡◌, length}
use Rattle.hm_parse_grammar.specs.Reading.Expressions.{consed}
use Rattle.hm_parse_descent.proofs.expressions.cons_all.Given as goal

abbrev pub invariant-operands : goal.invariant-operands
invariant-operands l = consed l.operands.items l.whole ≡ consed l.fn.operands.items l.fn.last

abbrev pub decreases-operands : goal.decreases-operands
decreases-operands l = length l.operands.items
