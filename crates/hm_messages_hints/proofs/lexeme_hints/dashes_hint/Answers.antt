use Rattle.std.proofs.Common.{rules, ◌≤◌, List, ℕ, inr}
use Rattle.std.specs.List.{prefix_len}
use Rattle.hm_lex.specs.Bytes.{is_symbol}
use Rattle.hm_lex.specs.Symbols.{is_dash}
use Rattle.hm_messages_hints.proofs.lexeme_hints.dashes_hint.Goals as goal

pub returns-else-dashes_len-symbols_len : goal.returns-else-dashes_len-symbols_len
returns-else-dashes_len-symbols_len c =
    let rest : List ℕ = c.args.rest.now in
    let most : prefix_len is_symbol rest ≤ prefix_len is_dash rest = search rules in
    (c.args.inner.now, inr (c.requires, most))
