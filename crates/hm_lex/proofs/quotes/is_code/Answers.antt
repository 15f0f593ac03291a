use Rattle.hm_lex.proofs.Digits.{numeral_utf8}
use Rattle.hm_lex.proofs.quotes.is_code.Goals as goal

pub returns-in-Err : goal.returns-in-Err
returns-in-Err c = absurd (c.in-Err.ensures.cases.0 (numeral_utf8 c.args.base c.args.digits.now c.requires.high c.requires.numeral))
