-- Texts without a byte of 128 or more, and texts up to a line end.
use Rattle.std.proofs.Common.{◌≡◌, ℕ, suc, ◌+◌, ◌<◌, Bool, true, false, cond, List, [], ◌∷◌, Some, None, length, get_or, take, count_by, nat_le, refl, sym, ap, subst, ◌∙◌, arith}
use Rattle.std.specs.Fmt.{is_char_start}
use Rattle.std.specs.Prelude.{IsAscii}
use Rattle.std.proofs.lemmas.Bool.{false_from_ne_true, leb-true, lt-ltb}
use Rattle.std.proofs.lemmas.List.{get_or-take, length-take, take_all}
use Rattle.std.proofs.lemmas.List.Sums.{sum_by-append}
use Rattle.std.proofs.lemmas.Grind.{get_or_default_zero}
use Rattle.bstr.specs.Find.{IsFirstByte, is_byte}
use Rattle.hm_lex.specs.Cut.{is_line_end}
use Rattle.hm_messages_excerpts.specs.Columns.{characters, units_of}
use Rattle.hm_messages_excerpts.specs.Lines.{IsWithout}
use Rattle.hm_messages_excerpts.specs.declared.columns.Units.{Units}

-- before the first line end there is none
pub plain_before : (text : List ℕ) (k : ℕ) → IsFirstByte (is_byte 10) text (Some k) → IsWithout is_line_end (take k text)
plain_before text k h i d low =
    let high = h.0.high in
    let before = h.0.before in
    let within : i < k = omega (arith, subst (λ (n : ℕ). i < n) (length-take k text) low) in
    let inside : i < length text = omega (arith, within, high) in
    subst (λ b. is_line_end b ≡ false) (sym (get_or-take k text i d within ∙ get_or_default_zero text i d inside)) (false_from_ne_true _ (before i (omega arith) within))

-- without a line end, the whole text is plain
pub plain_whole : (text : List ℕ) → IsFirstByte (is_byte 10) text None → IsWithout is_line_end (take (length text) text)
plain_whole text h i d low =
    let inside : i < length text = subst (λ (l : List ℕ). i < length l) (take_all (length text) text (omega arith)) low in
    subst (λ (l : List ℕ). is_line_end (get_or l i d) ≡ false) (sym (take_all (length text) text (omega arith))) (subst (λ b. is_line_end b ≡ false) (sym (get_or_default_zero text i d inside)) (false_from_ne_true _ (h i (omega arith) inside)))

is_start : (b : ℕ) → b < 128 → is_char_start b ≡ true
is_start b low = rw (lt-ltb b 128 low) refl

is_narrow : (b : ℕ) → b < 128 → nat_le 0xF0 b ≡ false
is_narrow b low = false_from_ne_true _ (λ wide. let high = leb-true 0xF0 b wide in let never : ⊥ = omega (arith, low, high) in never)

tail : (b : ℕ) (text : List ℕ) → IsAscii (b ∷ text) → IsAscii text
tail b text plain i = plain (suc i)

count_more : (p : ℕ → Bool) (b : ℕ) (text : List ℕ) → count_by p (b ∷ text) ≡ count_by p (b ∷ []) + count_by p text
count_more p b text = sum_by-append (λ x. cond (p x) 1 0) (b ∷ []) text

one_each : (text : List ℕ) → IsAscii text → count_by is_char_start text ≡ length text
one_each [] plain = refl
one_each (b ∷ text) plain =
    let first : count_by is_char_start (b ∷ []) ≡ 1 = ap (λ (x : Bool). 0 + cond x 1 0) (is_start b (plain 0)) in
    let more : count_by is_char_start (b ∷ text) ≡ count_by is_char_start (b ∷ []) + count_by is_char_start text = count_more is_char_start b text in
    let rest : count_by is_char_start text ≡ length text = one_each text (tail b text plain) in
    omega (arith, first, more, rest)

none_wide : (text : List ℕ) → IsAscii text → count_by (nat_le 0xF0) text ≡ 0
none_wide [] plain = refl
none_wide (b ∷ text) plain =
    let first : count_by (nat_le 0xF0) (b ∷ []) ≡ 0 = ap (λ (x : Bool). 0 + cond x 1 0) (is_narrow b (plain 0)) in
    let more : count_by (nat_le 0xF0) (b ∷ text) ≡ count_by (nat_le 0xF0) (b ∷ []) + count_by (nat_le 0xF0) text = count_more (nat_le 0xF0) b text in
    let rest : count_by (nat_le 0xF0) text ≡ 0 = none_wide text (tail b text plain) in
    omega (arith, first, more, rest)

-- without a byte of 128 or more, each byte is a character
pub plain_units : (text : List ℕ) → IsAscii text → record { characters = length text; wide = 0 } ≡ units_of text
plain_units text plain =
    ap (λ (n : ℕ). units n 0) (sym (one_each text plain)) ∙ ap (units (characters text)) (sym (none_wide text plain))
  where
    units : ℕ → ℕ → Units
    units n m = record { characters = n; wide = m }
