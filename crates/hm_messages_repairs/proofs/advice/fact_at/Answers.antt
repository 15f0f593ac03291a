use Rattle.std.proofs.Common.{rules, ◌≡◌, ℕ, List, map, take, subst}
use Rattle.hm_lex.specs.declared.token.Token.{Token}
use Rattle.hm_parse_grammar.specs.declared.symbol.Symbol.{Symbol}
use Rattle.hm_messages_hints.specs.Advice.{symbol_at, text_at}
use Rattle.hm_messages_hints.specs.SyntaxHints.{IsSyntaxHint}
use Rattle.hm_messages_outline.specs.Tokens.{symbol_in}
use Rattle.hm_messages_repairs.proofs.advice.fact_at.Goals as goal

pub returns : goal.returns
returns c =
    let source : List ℕ = c.args.source.now in
    let tokens : List Token = c.args.tokens.now in
    let number : ℕ = c.args.number in
    let symbols : List Symbol = map (symbol_in source) (take number tokens) in
    let before : c.as_slice.result.now ≡ symbols = search rules in
    let here : c.symbol_at-here.result ≡ symbol_at source tokens number = search rules in
    let text : c.as_bytes.result.now ≡ text_at source tokens number = search rules in
    let hint = c.syntax_hint.result in
    subst (λ (b : List Symbol). IsSyntaxHint b (symbol_at source tokens number) (text_at source tokens number) hint) before
    (subst (λ (s : Symbol). IsSyntaxHint c.as_slice.result.now s (text_at source tokens number) hint) here
    (subst (λ (t : List ℕ). IsSyntaxHint c.as_slice.result.now c.symbol_at-here.result t hint) text c.syntax_hint.ensures))
