use Rattle.hm_lex.proofs.Scanning.{one_answer}
use Rattle.hm_lex.proofs.laws.one_answer.Goals as goal

pub returns : goal.returns
returns c = one_answer
