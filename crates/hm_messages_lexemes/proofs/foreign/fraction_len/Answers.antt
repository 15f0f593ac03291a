use Rattle.std.proofs.Common.{rules, ◌≡◌, ◌∙◌, ◌+◌, ◌<◌, ◌≤◌, ℕ, List, ap, arith, drop, get_or, length, length-drop, refl, subst}
use Rattle.std.proofs.lemmas.List.{take_rest}
use Rattle.std.specs.List.{prefix_len}
use Rattle.hm_lex.specs.Bytes.{is_digit, is_name_byte}
use Rattle.hm_lex.specs.Runs.{FirstFails}
use Rattle.hm_messages_lexemes.proofs.Fronts.{fraction_of}
use Rattle.hm_messages_lexemes.proofs.foreign.fraction_len.Goals as goal

pub returns : goal.returns
returns c =
    let bytes = c.args.bytes.now in
    let whole = c.digits_len-whole.result in
    let part = c.digits_len-part.result in
    let within : whole < length bytes = search rules in
    let dot : get_or bytes whole 0 ≡ 46 = search rules in
    let behind = take_rest bytes (whole + 1) in
    let run : part ≡ prefix_len is_digit (drop (whole + 1) bytes) = c.digits_len-part.ensures.run ∙ ap (λ (l : List ℕ). prefix_len is_digit l) behind in
    let short : part ≤ length (drop (whole + 1) bytes) = subst (λ (l : List ℕ). part ≤ length l) behind c.digits_len-part.ensures.within in
    let ends : FirstFails is_name_byte (drop (whole + 1 + part) bytes) = subst (λ (l : List ℕ). FirstFails is_name_byte l) (take_rest bytes (whole + 1 + part)) (c.if-goes_on.ensures refl) in (
      omega (arith, within, short, length-drop (whole + 1) bytes),
      fraction_of bytes whole part c.digits_len-whole.ensures.run c.if-whole-eq0.false within dot run c.if-part-eq0.false ends,
    )
