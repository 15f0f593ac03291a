use Rattle.hm_lex.proofs.Cuts.{one_cut}
use Rattle.hm_lex.proofs.laws.one_cut.Goals as goal

pub returns : goal.returns
returns c = one_cut
