use Rattle.std.proofs.Common.{rules, ◌≡◌, ◌+◌, ◌-◌, ◌<◌, ℕ, length, ap, sym, ◌∙◌, true}
use Rattle.std.proofs.lemmas.List.{get_or_default}
use Rattle.hm_parse_grammar.specs.declared.symbol.Symbol.TheVariants.{Case, End}
use Rattle.hm_messages_hints.proofs.Rests.{in_rest}
use Rattle.hm_messages_hints.specs.SyntaxHints.{IsInType, IsRightOf, begins_type, is_of_type}
use Rattle.hm_messages_hints.proofs.contexts.right_type_begins.Goals as goal

pub returns-then-begins_type : goal.returns-then-begins_type
returns-then-begins_type c e =
    let at : ℕ = length c.args.symbols.now - 1 - c.loop-from_end.from_end in
    let within : at < length c.args.symbols.now = search rules in
    let right : IsRightOf c.args.symbols.now at = search rules in
    let part : IsInType begins_type c.args.symbols.now = record {
      start = at;
      within = within;
      begun = ap begins_type (get_or_default c.args.symbols.now at End Case within) ∙ (sym c.begins_type.ensures ∙ c.if-begins_type.true);
      rest = in_rest (λ s. is_of_type s ≡ true) (at + 1) c.args.symbols.now (c.are_of_type.ensures e);
    } in
    (part, right)
