use Rattle.std.proofs.Common.{sym, ◌∙◌}
use Rattle.hm_lex.proofs.OneCharacter.{plain_parsed, no_plain_text}
use Rattle.hm_lex.proofs.quotes.is_plain_character.Goals as goal

pub returns-in-Ok-parse : goal.returns-in-Ok-parse
returns-in-Ok-parse c = plain_parsed c.args.bytes.now c.in-Ok-parse.c c.is_plain.result c.in-Ok.ensures.cases.1 (sym c.in-Ok.ensures.cases.0 ∙ c.in-Ok-parse.ensures.value) c.is_plain.ensures

pub returns-in-Err : goal.returns-in-Err
returns-in-Err c = no_plain_text c.args.bytes.now c.in-Err.ensures.cases.0
