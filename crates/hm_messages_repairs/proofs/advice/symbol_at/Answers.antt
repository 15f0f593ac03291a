use Rattle.std.proofs.Common.{rules, ◌<◌, length, get_or, sym, ap, ◌∙◌}
use Rattle.hm_lex.specs.declared.token.Token.{Token}
use Rattle.hm_lex.specs.declared.token.Kind.TheVariants.{Word}
use Rattle.hm_parse_grammar.specs.Symbols.{symbol_of}
use Rattle.hm_messages_repairs.proofs.Numbered.{symbol_there}
use Rattle.hm_messages_repairs.proofs.advice.symbol_at.Goals as goal

pub returns : goal.returns
returns c =
    let ts = c.args.tokens.now in
    let k = c.args.number in
    let none : Token = record { kind = Word; start = 0; end = 0; place = record { line = 0; column = 0 } } in
    let below : k < length ts = search rules in
    c.symbol_of.ensures ∙ (ap (symbol_of (get_or ts k none).kind) c.text_of.ensures ∙ sym (symbol_there c.args.source.now ts k none below))
