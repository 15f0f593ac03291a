-- A text has each place at one byte.
use Rattle.std.proofs.Common.{◌≡◌, ◌∙◌, ◌+◌, ◌-◌, ◌<◌, ◌≤◌, ℕ, zero, suc, Bool, true, false, List, arith, ap, inl, inr, get_or, length, refl, subst, sym, take}
use Rattle.std.proofs.lemmas.Bool.{cases_lt}
use Rattle.std.proofs.lemmas.List.{take_more}
use Rattle.hm_lex.proofs.Places.{place_after_push}
use Rattle.hm_lex.specs.Cut.{is_line_end, place_after}
use Rattle.hm_lex.specs.Places.{IsBefore}
use Rattle.hm_lex.specs.Scan.{place_step}
use Rattle.hm_lex.specs.declared.token.Place.{Place}

step_before : (p : Place) (b : ℕ) → IsBefore p (place_step p b)
step_before p b = go (is_line_end b) refl
  where
    go : (x : Bool) → is_line_end b ≡ x → IsBefore p (place_step p b)
    go true e = rw e (inl (omega arith))
    go false e = rw e (inr (refl, omega arith))

before_before : (p q r : Place) → IsBefore p q → IsBefore q r → IsBefore p r
before_before p q r (inl low) (inl more) = inl (omega (arith, low, more))
before_before p q r (inl low) (inr more) = let same = more.0 in inl (omega (arith, low, same))
before_before p q r (inr low) (inl more) = let same = low.0 in inl (omega (arith, same, more))
before_before p q r (inr low) (inr more) = let a = low.1 in let b = more.1 in inr (low.0 ∙ more.0, omega (arith, a, b))

not_itself : (p : Place) → ¬ (IsBefore p p)
not_itself p (inl low) = omega (arith, low)
not_itself p (inr low) = let less = low.1 in omega (arith, less)

next_before : (text : List ℕ) (k : ℕ) → k < length text → IsBefore (place_after (take k text)) (place_after (take (k + 1) text))
next_before text k inside =
    let next : place_after (take (k + 1) text) ≡ place_step (place_after (take k text)) (get_or text k 0) = ap place_after (take_more text k 0 inside) ∙ place_after_push (take k text) (get_or text k 0) in
    subst (IsBefore (place_after (take k text))) (sym next) (step_before (place_after (take k text)) (get_or text k 0))

rising : (text : List ℕ) (a n : ℕ) → a + (n + 1) ≤ length text → IsBefore (place_after (take a text)) (place_after (take (a + (n + 1)) text))
rising text a zero inside = next_before text a (omega (arith, inside))
rising text a (suc n) inside =
    let last : a + (suc n + 1) ≡ a + (n + 1) + 1 = omega arith in
    subst (λ (m : ℕ). IsBefore (place_after (take a text)) (place_after (take m text))) (sym last)
    (before_before (place_after (take a text)) (place_after (take (a + (n + 1)) text)) (place_after (take (a + (n + 1) + 1) text)) (rising text a n (omega (arith, inside))) (next_before text (a + (n + 1)) (omega (arith, inside))))

not_less : (text : List ℕ) (a b : ℕ) → a < b → b ≤ length text → place_after (take a text) ≡ place_after (take b text) → ⊥
not_less text a b low inside same =
    let gap : (n : ℕ) × (b ≡ a + (n + 1)) = (b - (a + 1), omega (arith, low)) in
    let up : IsBefore (place_after (take a text)) (place_after (take b text)) =
    subst (λ (m : ℕ). IsBefore (place_after (take a text)) (place_after (take m text))) (sym gap.1) (rising text a gap.0 (subst (λ (m : ℕ). m ≤ length text) gap.1 inside)) in
    not_itself (place_after (take b text)) (subst (λ (p : Place). IsBefore p (place_after (take b text))) same up)

pub one_byte : (text : List ℕ) (a b : ℕ) → a ≤ length text → b ≤ length text → place_after (take a text) ≡ place_after (take b text) → a ≡ b
one_byte text a b inside within same = elim (cases_lt a b) [
  | inl less ↦ absurd (not_less text a b less within same)
  | inr past ↦ elim (cases_lt b a) [
    | inl less ↦ absurd (not_less text b a less inside (sym same))
    | inr over ↦ omega (arith, past, over)
  ]
]
