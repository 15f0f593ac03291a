use Rattle.std.proofs.Common.{rules, take}
use Rattle.hm_lex.specs.Symbols.{IsDashes}
use Rattle.hm_messages_lexemes.proofs.Fronts.{operator_of}
use Rattle.hm_messages_lexemes.proofs.foreign.operator_len.Goals as goal

pub returns : goal.returns
returns c =
    let len = c.symbols_len-len.result in
    let none : IsDashes (take len c.args.bytes.now) → ⊥ = search rules in
    (c.symbols_len-len.ensures.within, operator_of c.args.bytes.now len c.symbols_len-len.ensures.run c.if-len-eq0.false none)
