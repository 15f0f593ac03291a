use Rattle.std.proofs.Common.{rules, ◌≡◌, ◌+◌, ◌-◌, ◌<◌, ℕ, length, ap, sym, ◌∙◌, true}
use Rattle.std.proofs.lemmas.List.{get_or_default}
use Rattle.hm_parse_grammar.specs.declared.symbol.Symbol.TheVariants.{Case, End}
use Rattle.hm_messages_hints.proofs.Rests.{in_rest}
use Rattle.hm_messages_hints.specs.SyntaxHints.{IsInType, IsRightOf, begins_newtype, is_of_type}
use Rattle.hm_messages_hints.proofs.contexts.right_newtype_begins.Goals as goal

pub returns-then-begins_newtype : goal.returns-then-begins_newtype
returns-then-begins_newtype c e =
    let at : ℕ = length c.args.symbols.now - 1 - c.loop-from_end.from_end in
    let within : at < length c.args.symbols.now = search rules in
    let right : IsRightOf c.args.symbols.now at = search rules in
    let part : IsInType begins_newtype c.args.symbols.now = record {
      start = at;
      within = within;
      begun = ap begins_newtype (get_or_default c.args.symbols.now at End Case within) ∙ (sym c.begins_newtype.ensures ∙ c.if-begins_newtype.true);
      rest = in_rest (λ s. is_of_type s ≡ true) (at + 1) c.args.symbols.now (c.are_of_type.ensures e);
    } in
    (part, right)
