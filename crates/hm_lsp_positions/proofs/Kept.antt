-- Starts of lines that stay when a text changes after them.
use Rattle.std.proofs.Common.{◌≡◌, ℕ, zero, suc, ◌+◌, ◌-◌, ◌<◌, ◌≤◌, Bool, true, nat_eq, ◌&&◌, List, [], ◌∷◌, ◌++◌, Option, Some, None, length, length-append, take, drop, get_or, refl, sym, ap, ap₂, subst, ◌∙◌, arith, inl, inr, ⊎_elim, if◌then◌else◌}
use Rattle.std.specs.Prelude.{option_map}
use Rattle.std.proofs.lemmas.Bool.{cases_Bool, cases_lt, cond-false, cond-true}
use Rattle.std.proofs.lemmas.List.{drop-append-le, drop-take, get_or-take, get_or_append_left, length-drop, length-take-le}
use Rattle.std.proofs.lemmas.List.Sums.{fails_before_first, passes_at_first, position_or_len_is}
use Rattle.hm_lsp_positions.specs.Lines.{is_line_end, line_length, line_start, whole_length}
use Rattle.hm_lsp_positions.proofs.Starts.{none_some, same_value, start_end, start_suc, start_zero}

abbrev is_two : ℕ → ℕ → Bool
is_two a b = nat_eq a 13 && nat_eq b 10

whole_by : (text : List ℕ) (k : ℕ) (b : Bool) → k ≡ line_length text → b ≡ is_two (get_or text k 0) (get_or text (k + 1) 0) → whole_length text ≡ (if b then k + 2 else k + 1)
whole_by text k b is same =
    sym (ap (λ (n : ℕ). if is_two (get_or text n 0) (get_or text (n + 1) 0) then n + 2 else n + 1) is) ∙ ap (λ (c : Bool). if c then k + 2 else k + 1) (sym same)

-- a line with its end is longer than the line
whole_more : (text : List ℕ) (k : ℕ) → k ≡ line_length text → k + 1 ≤ whole_length text
whole_more text k is = elim (cases_Bool (is_two (get_or text k 0) (get_or text (k + 1) 0))) [
  | inl two ↦ let e = whole_by text k _ is refl ∙ cond-true _ (k + 2) (k + 1) two in omega (arith, e)
  | inr one ↦ let e = whole_by text k _ is refl ∙ cond-false _ (k + 2) (k + 1) one in omega (arith, e)
]

module _ (text rest : List ℕ) (from : ℕ) (within : from ≤ length text) where
  kept_byte : (i : ℕ) → i < from → get_or (take from text ++ rest) i 0 ≡ get_or text i 0
  kept_byte i low = get_or_append_left (take from text) rest 0 i (omega (arith, low, length-take-le from text within)) ∙ get_or-take from text i 0 low

  pub long_enough : from ≤ length (take from text ++ rest)
  long_enough = omega (arith, length-take-le from text within, length-append (take from text) rest)

  kept_length : (k : ℕ) → k ≡ line_length text → k < from → line_length (take from text ++ rest) ≡ k
  kept_length k is low =
      position_or_len_is is_line_end (take from text ++ rest) k 0 (omega (arith, low, long_enough))
      (λ i l. ap is_line_end (kept_byte i (omega (arith, l, low))) ∙ fails_before_first is_line_end text i 0 (omega (arith, l, is)))
      (λ _. ap is_line_end (kept_byte k low ∙ ap (λ (j : ℕ). get_or text j 0) is) ∙ passes_at_first is_line_end text 0 (omega (arith, is, low, within)))

  kept_whole : (k : ℕ) → k ≡ line_length text → k + 1 < from → whole_length (take from text ++ rest) ≡ whole_length text
  kept_whole k is low =
      let same : is_two (get_or (take from text ++ rest) k 0) (get_or (take from text ++ rest) (k + 1) 0) ≡ is_two (get_or text k 0) (get_or text (k + 1) 0) = ap₂ is_two (kept_byte k (omega (arith, low))) (kept_byte (k + 1) low) in
      whole_by (take from text ++ rest) k (is_two (get_or text k 0) (get_or text (k + 1) 0)) (sym (kept_length k is (omega (arith, low)))) (sym same) ∙ sym (whole_by text k _ is refl)

  kept_drop : (w : ℕ) → w ≤ from → drop w (take from text ++ rest) ≡ take (from - w) (drop w text) ++ rest
  kept_drop w low =
      let sum : w + (from - w) ≡ from = omega (arith, low) in
      drop-append-le w (take from text) rest (omega (arith, low, length-take-le from text within))
      ∙ ap (λ (l : List ℕ). l ++ rest) (ap (λ (n : ℕ). drop w (take n text)) (sym sum) ∙ drop-take w (from - w) text)

start_moved : (w k : ℕ) (o : Option ℕ) → option_map (λ j. w + j) o ≡ Some k → (j : ℕ) × ((o ≡ Some j) × (w + j ≡ k))
start_moved w k None same = absurd (none_some k same)
start_moved w k (Some j) same = (j, (refl, same_value (w + j) k same))

-- a line that begins before a place begins there in each text with the same bytes up to the place
pub kept_start : (i s from : ℕ) (text rest : List ℕ) → line_start i text ≡ Some s → s < from → from ≤ length text → line_start i (take from text ++ rest) ≡ Some s
kept_start zero s from text rest is low within = start_zero (take from text ++ rest) ∙ (sym (start_zero text) ∙ is)
kept_start (suc n) s from text rest is low within =
    ⊎_elim (λ (less : line_length text < length text).
    let w : ℕ = whole_length text in
    let here = start_moved w s (line_start n (drop w text)) (sym (start_suc n text less) ∙ is) in
    let sum : w + here.0 ≡ s = here.1.1 in
    let more : line_length text + 1 ≤ w = whole_more text (line_length text) refl in
    let new_length : line_length (take from text ++ rest) ≡ line_length text = kept_length text rest from within (line_length text) refl (omega (arith, more, sum, low)) in
    let new_whole : whole_length (take from text ++ rest) ≡ w = kept_whole text rest from within (line_length text) refl (omega (arith, more, sum, low)) in
    let enough : from ≤ length (take from text ++ rest) = long_enough text rest from within in
    let new_less : line_length (take from text ++ rest) < length (take from text ++ rest) = omega (arith, new_length, more, sum, low, enough) in
    let shorter : length (drop w text) ≡ length text - w = length-drop w text in
    start_suc n (take from text ++ rest) new_less
    ∙ (ap (λ (x : ℕ). option_map (λ j. x + j) (line_start n (drop x (take from text ++ rest)))) new_whole
    ∙ (ap (λ (t : List ℕ). option_map (λ j. w + j) (line_start n t)) (kept_drop text rest from within w (omega (arith, sum, low)))
    ∙ (ap (option_map (λ j. w + j)) (kept_start n here.0 (from - w) (drop w text) rest here.1.0 (omega (arith, sum, low)) (omega (arith, shorter, within)))
    ∙ ap Some sum))))
    (λ (ends : length text ≤ line_length text). absurd (none_some s (sym (start_end n text ends) ∙ is)))
    (cases_lt (line_length text) (length text))
