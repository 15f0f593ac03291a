use Rattle.hm_lex.proofs.laws.examples.Goals as goal
use Rattle.hm_lex.proofs.Worked.{worked}

pub returns : goal.returns
returns c = worked
