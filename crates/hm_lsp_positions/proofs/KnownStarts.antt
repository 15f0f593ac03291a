-- The starts of lines that are known of a text.
use Rattle.std.proofs.Common.{◌≡◌, ℕ, ◌+◌, ◌-◌, ◌<◌, ◌≤◌, false, true, List, [], ◌∷◌, ◌++◌, Option, None, Some, nat_le, nat_lt, length, length-append, take, drop, get_or, inl, inr, refl, sym, ap, subst, ◌∙◌, arith}
use Rattle.std.specs.Prelude.{option_to_list}
use Rattle.std.proofs.lemmas.Bool.{and_from, and_parts, both_ways, cases_lt, le-leb, lt-ltb, ltb-true}
use Rattle.std.proofs.lemmas.List.{append-nil, get_or_append_left, get_or_push, length-drop, take_rest}
use Rattle.hm_lsp_positions.specs.Lines.{line_start}
use Rattle.hm_lsp_positions.specs.Starts.{AreStarts, is_past}
use Rattle.hm_lsp_positions.proofs.Kept.{kept_start, long_enough}
use Rattle.hm_lsp_positions.proofs.Starts.{cut, never_cut, next_cut, same_value, start_zero}

abbrev only_zero : List ℕ
only_zero = 0 ∷ []

first_is : (i : ℕ) → i < 1 → get_or only_zero i 0 ≡ get_or only_zero 0 0
first_is i low = let is : i ≡ 0 = omega (arith, low) in ap (λ (j : ℕ). get_or only_zero j 0) is

pub starts_first : (text starts : List ℕ) → starts ≡ 0 ∷ [] → AreStarts text starts
starts_first text starts is = subst (AreStarts text) (sym is) (record {
  some = omega arith;
  each = λ i low. let zero : i ≡ 0 = omega (arith, low) in ap (λ (j : ℕ). line_start j text) zero ∙ (start_zero text ∙ ap Some (sym (first_is i low)));
  within = λ i low. let e = first_is i low in omega (arith, e);
  rising = λ i j up low. let a = first_is i (omega (arith, up, low)) in let b = first_is j low in omega (arith, a, b);
})

module _ (text old : List ℕ) (x : ℕ) where
  before : (i : ℕ) → i < length old → get_or (old ++ x ∷ []) i 0 ≡ get_or old i 0
  before i low = get_or_append_left old (x ∷ []) 0 i low

  last : (i : ℕ) → length old ≡ i → get_or (old ++ x ∷ []) i 0 ≡ x
  last i is = get_or_push old x 0 i is

  more : length (old ++ x ∷ []) ≡ length old + 1
  more = length-append old (x ∷ [])

  -- one start less
  pub starts_less : 0 < length old → AreStarts text (old ++ x ∷ []) → AreStarts text old
  starts_less some a = record {
    some = some;
    each = λ i low. a.each i (omega (arith, low, more)) ∙ ap Some (before i low);
    within = λ i low. let e = before i low in let w = a.within i (omega (arith, low, more)) in omega (arith, e, w);
    rising = λ i j up low. let e = before i (omega (arith, up, low)) in let f = before j low in let r = a.rising i j up (omega (arith, low, more)) in omega (arith, e, f, r);
  }

  -- one start more
  pub starts_push : AreStarts text old → line_start (length old) text ≡ Some x → x ≤ length text → get_or old (length old - 1) 0 ≤ x → AreStarts text (old ++ x ∷ [])
  starts_push a here short above = record {
    some = omega (arith, more);
    each = λ i low. elim (cases_lt i (length old)) [
      | inl less ↦ a.each i less ∙ ap Some (sym (before i less))
      | inr past ↦ let is : length old ≡ i = omega (arith, past, low, more) in sym (ap (λ (j : ℕ). line_start j text) is) ∙ (here ∙ ap Some (sym (last i is)))
    ];
    within = λ i low. elim (cases_lt i (length old)) [
      | inl less ↦ let e = before i less in let w = a.within i less in omega (arith, e, w)
      | inr past ↦ let e = last i (omega (arith, past, low, more)) in omega (arith, e, short)
    ];
    rising = λ i j up low. elim (cases_lt j (length old)) [
      | inl less ↦ let e = before i (omega (arith, up, less)) in let f = before j less in let r = a.rising i j up less in omega (arith, e, f, r)
      | inr past ↦
          let f = last j (omega (arith, past, low, more)) in
          elim (cases_lt i (length old)) [
            | inl less ↦ let e = before i less in let r = a.rising i (length old - 1) (omega (arith, less)) (omega (arith, less)) in omega (arith, e, f, r, above)
            | inr beyond ↦ let e = last i (omega (arith, beyond, up, low, more)) in omega (arith, e, f)
          ]
    ];
  }

-- the start of the next line
pub starts_more : (text old new : List ℕ) (top next : ℕ) → AreStarts text old → top ≡ get_or old (length old - 1) 0 → Some next ≡ line_start 1 (cut text top) → next ≤ length (cut text top) → new ≡ old ++ (top + next) ∷ []
    → AreStarts text new
starts_more text old new top next a at is low pushed =
    let some = a.some in
    let size : length (cut text top) ≡ length text - top = ap (λ (t : List ℕ). length t) (take_rest text top) ∙ length-drop top text in
    let known : line_start (length old - 1) text ≡ Some top = a.each (length old - 1) (omega (arith, some)) ∙ ap Some (sym at) in
    let count : (length old - 1) + 1 ≡ length old = omega (arith, some) in
    let here : line_start (length old) text ≡ Some (top + next) = sym (ap (λ (j : ℕ). line_start j text) count) ∙ next_cut (length old - 1) top next text known is in
    let inside = a.within (length old - 1) (omega (arith, some)) in
    subst (AreStarts text) (sym pushed) (starts_push text old (top + next) a here (omega (arith, low, size, inside, at)) (omega (arith, at)))

-- the start that is known of a line
pub known_line : (text starts : List ℕ) (line : ℕ) → AreStarts text starts → line < length starts → Some (get_or starts line 0) ≡ line_start line text
known_line text starts line a low = sym (a.each line low)

module _ (text rest starts : List ℕ) (from : ℕ) (a : AreStarts text starts) (within : from ≤ length text) where
  first_kept : (i : ℕ) → i ≡ 0 → line_start i (take from text ++ rest) ≡ Some (get_or starts i 0)
  first_kept i is =
      let some = a.some in
      ap (λ (j : ℕ). line_start j (take from text ++ rest)) is ∙ (start_zero (take from text ++ rest) ∙ (sym (start_zero text) ∙ (a.each 0 some ∙ ap (λ (j : ℕ). Some (get_or starts j 0)) (sym is))))

  first_within : (i : ℕ) → i ≡ 0 → get_or starts i 0 ≤ length (take from text ++ rest)
  first_within i is =
      let some = a.some in
      let zero : 0 ≡ get_or starts 0 0 = same_value 0 (get_or starts 0 0) (sym (start_zero text) ∙ a.each 0 some) in
      let same = ap (λ (j : ℕ). get_or starts j 0) is in
      omega (arith, zero, same)

  low_last : is_past starts from ≡ false → 1 < length starts → get_or starts (length starts - 1) 0 < from
  low_last none many = elim (cases_lt (get_or starts (length starts - 1) 0) from) [
    | inl less ↦ less
    | inr past ↦ absurd (both_ways (is_past starts from) none (and_from _ _ (lt-ltb _ _ many) (le-leb _ _ past)))
  ]

  -- those before a place are starts of each text with the same bytes up to the place
  pub starts_before : is_past starts from ≡ false → AreStarts (take from text ++ rest) starts
  starts_before none = record {
    some = a.some;
    each = λ i low. elim (cases_lt 1 (length starts)) [
      | inl many ↦
          let r = a.rising i (length starts - 1) (omega (arith, low)) (omega (arith, low)) in
          let l = low_last none many in
          kept_start i (get_or starts i 0) from text rest (a.each i low) (omega (arith, r, l)) within
      | inr one ↦ first_kept i (omega (arith, one, low))
    ];
    within = λ i low. elim (cases_lt 1 (length starts)) [
      | inl many ↦
          let r = a.rising i (length starts - 1) (omega (arith, low)) (omega (arith, low)) in
          let l = low_last none many in
          let enough = long_enough text rest from within in
          omega (arith, r, l, enough)
      | inr one ↦ first_within i (omega (arith, one, low))
    ];
    rising = a.rising;
  }

-- a line after the last one
pub no_such_line : (text starts : List ℕ) (top line : ℕ) → AreStarts text starts → top ≡ get_or starts (length starts - 1) 0 → length starts ≤ line → None ≡ line_start 1 (cut text top) → None ≡ line_start line text
no_such_line text starts top line a at past none =
    let some = a.some in
    let known : line_start (length starts - 1) text ≡ Some top = a.each (length starts - 1) (omega (arith, some)) ∙ ap Some (sym at) in
    never_cut (length starts - 1) line top text (omega (arith, some, past)) known none

-- after another text in place of all
pub starts_anew : (text new starts : List ℕ) → AreStarts (take 0 text ++ new) starts → AreStarts new starts
starts_anew text new starts a = a

-- the last start is forgotten
pub starts_popped : (text old new : List ℕ) (from : ℕ) (last : Option ℕ) → AreStarts text old → is_past old from ≡ true → old ≡ new ++ option_to_list last → AreStarts text new
starts_popped text old new from None a past is = subst (AreStarts text) (is ∙ append-nil new) a
starts_popped text old new from (Some x) a past is =
    let many = ltb-true 1 (length old) (and_parts (nat_lt 1 (length old)) (nat_le from (get_or old (length old - 1) 0)) past).0 in
    let long : length old ≡ length new + 1 = ap (λ (l : List ℕ). length l) is ∙ length-append new (x ∷ []) in
    starts_less text new x (omega (arith, many, long)) (subst (AreStarts text) is a)
