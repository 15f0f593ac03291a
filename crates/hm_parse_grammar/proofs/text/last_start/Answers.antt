use Rattle.std.proofs.Common.{rules}
use Rattle.hm_parse_grammar.proofs.Parts.{start_is}
use Rattle.hm_parse_grammar.proofs.text.last_start.Goals as goal

pub returns-after-loop-start-clause-start : goal.returns-after-loop-start-clause-start
returns-after-loop-start-clause-start c = start_is _ _ c.loop-start.invariant.within c.loop-start.invariant.passed (search rules)
