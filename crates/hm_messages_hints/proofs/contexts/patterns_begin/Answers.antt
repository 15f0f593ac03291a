use Rattle.std.proofs.Common.{rules, ◌≡◌, ◌+◌, ◌-◌, ◌<◌, ℕ, length, ap, sym, ◌∙◌, true}
use Rattle.std.proofs.lemmas.List.{get_or_default}
use Rattle.hm_parse_grammar.specs.declared.symbol.Symbol.TheVariants.{Case, End}
use Rattle.hm_messages_hints.proofs.Rests.{in_rest}
use Rattle.hm_messages_hints.specs.SyntaxHints.{begins_patterns, is_of_pattern}
use Rattle.hm_messages_hints.proofs.contexts.patterns_begin.Goals as goal

pub returns-then-begins_patterns : goal.returns-then-begins_patterns
returns-then-begins_patterns c e =
    let at : ℕ = length c.args.symbols.now - 1 - c.loop-from_end.from_end in
    let within : at < length c.args.symbols.now = search rules in
    record {
      start = at;
      within = within;
      begun = ap begins_patterns (get_or_default c.args.symbols.now at End Case within) ∙ (sym c.begins_patterns.ensures ∙ c.if-begins_patterns.true);
      rest = in_rest (λ s. is_of_pattern s ≡ true) (at + 1) c.args.symbols.now (c.are_of_pattern.ensures e);
    }
