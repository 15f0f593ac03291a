use Rattle.std.proofs.Common.{rules, ◌≡◌, ◌+◌, ◌-◌, ◌≤◌, ℕ, length, true}
use Rattle.hm_messages_hints.proofs.Rests.{in_rest}
use Rattle.hm_messages_hints.specs.SyntaxHints.{is_of_pattern}
use Rattle.hm_messages_hints.proofs.contexts.alternative_begins.Goals as goal

pub returns-then-precedes_alternative : goal.returns-then-precedes_alternative
returns-then-precedes_alternative c e =
    let start : ℕ = length c.args.symbols.now - 1 - c.loop-from_end.from_end in
    let holds : c.holds_alternatives.result ≡ true = search rules in
    let within : c.args.bracket ≤ start = search rules in
    record {
      of_case = c.holds_alternatives.ensures.of holds;
      brace = c.holds_alternatives.ensures.brace holds;
      start = start;
      within = within;
      begun = c.precedes_alternative.ensures c.if-precedes_alternative.true;
      rest = in_rest (λ s. is_of_pattern s ≡ true) (start + 1) c.args.symbols.now (c.are_of_pattern.ensures e);
    }
