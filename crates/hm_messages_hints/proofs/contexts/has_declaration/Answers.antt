use Rattle.std.proofs.Common.{rules, ◌≡◌, ◌+◌, ◌-◌, ◌<◌, ℕ, length, ap, sym, ◌∙◌, false}
use Rattle.std.proofs.lemmas.List.{get_or_default}
use Rattle.hm_parse_grammar.specs.Symbols.{same}
use Rattle.hm_parse_grammar.specs.declared.symbol.Symbol.TheVariants.{Case, End, Module}
use Rattle.hm_messages_hints.proofs.Rests.{in_rest}
use Rattle.hm_messages_hints.specs.SyntaxHints.{begins_declaration}
use Rattle.hm_messages_hints.proofs.contexts.has_declaration.Goals as goal

pub returns-then-begins_declaration : goal.returns-then-begins_declaration
returns-then-begins_declaration c e =
    let at : ℕ = length c.args.symbols.now - 1 - c.loop-from_end.from_end in
    let within : at < length c.args.symbols.now = search rules in
    record {
      start = at;
      within = within;
      begun = ap begins_declaration (get_or_default c.args.symbols.now at End Case within) ∙ (sym c.begins_declaration.ensures ∙ c.if-begins_declaration.true);
      rest = in_rest (λ s. same s Module ≡ false) (at + 1) c.args.symbols.now (c.have_no_module.ensures e);
    }
