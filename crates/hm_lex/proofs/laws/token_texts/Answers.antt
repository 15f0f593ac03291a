use Rattle.hm_lex.proofs.TokenTexts.{token_texts}
use Rattle.hm_lex.proofs.laws.token_texts.Goals as goal

pub returns : goal.returns
returns c = token_texts
