use Rattle.hm_lex.proofs.OneFault.{one_fault, one_refusal}
use Rattle.hm_lex.proofs.laws.one_fault.Goals as goal

pub returns : goal.returns
returns c = record { first = one_fault; refusal = one_refusal }
