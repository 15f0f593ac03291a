use Rattle.std.proofs.Common.{rules, ◌<◌, ◌≡◌, length, sym, ◌∙◌}
use Rattle.hm_lex.specs.declared.token.Token.{Token}
use Rattle.hm_lex.specs.declared.token.Kind.TheVariants.{Word}
use Rattle.hm_messages_repairs.proofs.Numbered.{text_there}
use Rattle.hm_messages_repairs.proofs.advice.text_at.Goals as goal

pub returns : goal.returns
returns c =
    let ts = c.args.tokens.now in
    let k = c.args.number in
    let none : Token = record { kind = Word; start = 0; end = 0; place = record { line = 0; column = 0 } } in
    let below : k < length ts = search rules in
    let same : c.in-Ok.text.now ≡ c.text_of.result.now = search rules in
    same ∙ (c.text_of.ensures ∙ sym (text_there c.args.source.now ts k none below))
