use Rattle.std.proofs.Common.{rules, ◌≡◌, ◌∙◌, ℕ, List, drop, length, subst, sym}
use Rattle.hm_messages_hints.proofs.Strings.{goes_all}
use Rattle.hm_messages_hints.specs.LexemeHints.{goes_on, is_text}
use Rattle.hm_messages_hints.proofs.lexeme_hints.is_left_open.Goals as goal

pub returns : goal.returns
returns c =
    let line : List ℕ = c.args.line.now in
    let over : c.bytes.at ≡ length line = search rules in
    let all : goes_on c.bytes.part (drop c.bytes.at line) ≡ is_text c.bytes.part = subst (λ (n : ℕ). goes_on c.bytes.part (drop n line) ≡ is_text c.bytes.part) (sym over) (goes_all c.bytes.part line) in
    c.is_text.ensures ∙ sym (c.bytes.invariant ∙ all)
