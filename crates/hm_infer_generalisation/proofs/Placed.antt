-- Numbers in a list, and the table of their places.
use Rattle.std.proofs.Common.{◌≡◌, ℕ, zero, suc, ◌+◌, ◌<◌, ◌≤◌, min, ◌==◌, ◌||◌, Bool, true, false, cond, List, [], ◌∷◌, ◌++◌, length, get_or, take, None, Some, refl, sym, ap, ◌∙◌, subst, arith, inl, inr}
use Rattle.std.specs.Prelude.{nat_eq}
use Rattle.std.specs.HashMap.{HashMap, get, Updates}
use Rattle.std.proofs.lemmas.Bool.{eq-eqb, eqb-true, ne_eqb}
use Rattle.std.proofs.lemmas.List.{length-append, take_all, take_min, take_more, take-append-le}
use Rattle.std.proofs.Math.Seq.{take-append_seam}
use Rattle.hm_types.specs.Numbers.{place_among}
use Rattle.hm_types.specs.Schemes.{is_among, place}
use Rattle.hm_types.proofs.Quantified.{contains_append}
use Rattle.hm_types.proofs.Substitution.{bool_cases, or_neither}
use Rattle.hm_types.proofs.Table.{place_absent}
use Rattle.hm_infer_generalisation.specs.Places.{AreNoted, IsPlaceOf, few, with_number}

-- Lists

pub but_last : (xs ys : List ℕ) (n k : ℕ) → k ≡ length xs → ys ≡ xs ++ n ∷ [] → take k ys ≡ xs
but_last xs ys n k e more = ap (λ i. take i ys) e ∙ (ap (take (length xs)) more ∙ take-append_seam xs (n ∷ []))

at_end : (n : ℕ) (xs : List ℕ) → is_among n xs ≡ false → place n (xs ++ n ∷ []) ≡ length xs
at_end n [] h = rw (eq-eqb n n refl) refl
at_end n (x ∷ xs) h =
    let parts = or_neither (n == x) (is_among n xs) h in
    let rest : place n (xs ++ n ∷ []) ≡ length xs = at_end n xs parts.1 in
    rw parts.0 (omega arith)

at_old : (n : ℕ) (xs ys : List ℕ) → is_among n xs ≡ true → place n (xs ++ ys) ≡ place n xs
at_old n [] ys h = absurd (cc)
at_old n (x ∷ xs) ys h =
    elim (bool_cases (n == x)) [
      | inl same ↦ rw same refl
      | inr other ↦ let rest : place n (xs ++ ys) ≡ place n xs = at_old n xs ys (rw other at h) in rw other (ap (λ k. 1 + k) rest)
    ]

not_in_front : (n i : ℕ) (xs : List ℕ) → is_among n xs ≡ false → is_among n (take i xs) ≡ false
not_in_front n zero xs h = refl
not_in_front n (suc i) [] h = refl
not_in_front n (suc i) (x ∷ xs) h = let parts = or_neither (n == x) (is_among n xs) h in rw parts.0 (not_in_front n i xs parts.1)

-- another number is at the place where it was
other_place : (q n : ℕ) (xs : List ℕ) → (n == q) ≡ false → place_among q (xs ++ n ∷ []) ≡ place_among q xs
other_place q n xs other =
    let apart : (q == n) ≡ false = ne_eqb q n (λ e. let both : (n == q) ≡ true = eq-eqb n q (sym e) in cc) in
    let among : is_among q (xs ++ n ∷ []) ≡ is_among q xs = contains_append q xs (n ∷ []) ∙ rw apart (or_no (is_among q xs)) in
    elim (bool_cases (is_among q xs)) [ inl here ↦ rw (among, here) (ap Some (at_old q xs (n ∷ []) here)) | inr absent ↦ rw (among, absent) refl ]
  where
    or_no : (b : Bool) → (b || false) ≡ b
    or_no true = refl
    or_no false = refl

new_place : (n : ℕ) (xs : List ℕ) → is_among n xs ≡ false → place_among n (xs ++ n ∷ []) ≡ Some (length xs)
new_place n xs absent =
    let here : is_among n (xs ++ n ∷ []) ≡ true = contains_append n xs (n ∷ []) ∙ rw (absent, eq-eqb n n refl) refl in
    rw here (ap Some (at_end n xs absent))

pub place_below : (n : ℕ) (xs : List ℕ) → is_among n xs ≡ true → place n xs < length xs
place_below n [] h = absurd (cc)
place_below n (x ∷ xs) h =
    elim (bool_cases (n == x)) [
      | inl same ↦ rw same (omega arith)
      | inr other ↦ let rest : place n xs < length xs = place_below n xs (rw other at h) in rw other (omega arith)
    ]

-- The first few

pub none_more : (n : ℕ) (xs : List ℕ) (i : ℕ) → i < length xs → is_among n (take i xs) ≡ false → (get_or xs i 0 ≡ n → ⊥) → is_among n (take (i + 1) xs) ≡ false
none_more n xs i inside before other =
    let d = get_or xs i 0 in
    let apart : (n == d) ≡ false = ne_eqb n d (λ e. other (sym e)) in
    rw (take_more xs i 0 inside, contains_append n (take i xs) (d ∷ []), before, apart) refl

pub found_here : (n : ℕ) (xs : List ℕ) (i : ℕ) → i < length xs → is_among n (take i xs) ≡ false → get_or xs i 0 ≡ n → IsPlaceOf n xs i
found_here n [] i inside before same = absurd (omega arith)
found_here n (x ∷ xs) zero inside before same = let e : (n == x) ≡ true = eq-eqb n x (sym same) in record { here = rw e refl; is = rw e refl }
found_here n (x ∷ xs) (suc i) inside before same =
    let parts = or_neither (n == x) (is_among n (take i xs)) before in
    let rest = found_here n xs i (omega (arith, inside)) parts.1 same in
    let e = rest.is in
    record { here = rw parts.0 rest.here; is = rw parts.0 (omega (arith, e)) }

pub none_of_few : (n : ℕ) (xs : List ℕ) (i count : ℕ) → count ≡ min few (length xs) → i ≤ count → count ≤ i → is_among n (take i xs) ≡ false → is_among n (take few xs) ≡ false
none_of_few n xs i count e below above absent =
    let k : i ≡ count = omega (arith, below, above) in
    subst (λ (ys : List ℕ). is_among n ys ≡ false) (ap (λ m. take m xs) (k ∙ e) ∙ take_min few xs) absent

-- Places

pub place_of_none : (n k : ℕ) (xs : List ℕ) → length xs ≤ few → is_among n (take few xs) ≡ false → k ≡ length xs → k ≡ place n xs
place_of_none n k xs short absent is = is ∙ sym (place_absent n xs (subst (λ (ys : List ℕ). is_among n ys ≡ false) (take_all few xs short) absent))

pub place_of_noted : {S : Type 0} (n p : ℕ) (xs : List ℕ) (table : HashMap ℕ ℕ S) → is_among n (take few xs) ≡ false → get nat_eq table n ≡ Some p → AreNoted xs table → p ≡ place n xs
place_of_noted n p xs table absent e t =
    let at : place_among n xs ≡ Some p = sym (t.at n ∙ ap (λ b. cond b None (place_among n xs)) absent) ∙ e in
    elim (bool_cases (is_among n xs)) [
      | inl here ↦ let f : Some (place n xs) ≡ Some p = rw here at at in cc
      | inr none ↦ let f : None ≡ Some p = rw none at at in cc
    ]

pub place_of_absent : {S : Type 0} (n k : ℕ) (xs : List ℕ) (table : HashMap ℕ ℕ S) → is_among n (take few xs) ≡ false → get nat_eq table n ≡ None → k ≡ length xs → AreNoted xs table → k ≡ place n xs
place_of_absent n k xs table absent e is t =
    let at : place_among n xs ≡ None = sym (t.at n ∙ ap (λ b. cond b None (place_among n xs)) absent) ∙ e in
    elim (bool_cases (is_among n xs)) [
      | inl here ↦ let f : Some (place n xs) ≡ None = rw here at at in cc
      | inr none ↦ is ∙ sym (place_absent n xs none)
    ]

-- One more number

pub not_added : (n p count : ℕ) (xs : List ℕ) → p ≡ place n xs → p < count → count ≡ length xs → xs ≡ with_number n xs
not_added n p count xs is below e =
    elim (bool_cases (is_among n xs)) [
      | inl here ↦ rw here refl
      | inr absent ↦ let all = place_absent n xs absent in absurd (omega (arith, is, below, e, all))
    ]

is_absent : (n p count : ℕ) (xs : List ℕ) → p ≡ place n xs → count ≤ p → count ≡ length xs → is_among n xs ≡ false
is_absent n p count xs is above e =
    elim (bool_cases (is_among n xs)) [
      | inl here ↦ let below = place_below n xs here in absurd (omega (arith, is, above, e, below))
      | inr absent ↦ absent
    ]

pub is_added : (n p count : ℕ) (xs ys : List ℕ) → p ≡ place n xs → count ≤ p → count ≡ length xs → ys ≡ xs ++ n ∷ [] → ys ≡ with_number n xs
is_added n p count xs ys is above e more = more ∙ rw (is_absent n p count xs is above e) refl

nothing_noted : (q : ℕ) (xs : List ℕ) → length xs ≤ few → cond (is_among q (take few xs)) None (place_among q xs) ≡ None
nothing_noted q xs short =
    let all : take few xs ≡ xs = take_all few xs short in
    elim (bool_cases (is_among q xs)) [ inl here ↦ rw (all, here) refl | inr absent ↦ rw (all, absent) refl ]

pub few_kept : {S : Type 0} (xs ys : List ℕ) (n : ℕ) (table : HashMap ℕ ℕ S) → AreNoted xs table → ys ≡ xs ++ n ∷ [] → length xs < few → AreNoted ys table
few_kept xs ys n table t e short = record {
  at = λ q.
      let count : length ys ≤ few = omega (arith, ap length e, length-append xs (n ∷ []), short) in
      (t.at q ∙ nothing_noted q xs (omega (arith, short))) ∙ sym (nothing_noted q ys count);
}

pub one_noted : {S : Type 0} (xs ys : List ℕ) (n p count : ℕ) (table next : HashMap ℕ ℕ S) → AreNoted xs table → p ≡ place n xs → count ≤ p → count ≡ length xs → ys ≡ xs ++ n ∷ [] → few ≤ length xs
    → Updates nat_eq table next n (Some count) → AreNoted ys next
one_noted xs ys n p count table next t is above e more many updates = record {
  at = λ q.
      let front : take few ys ≡ take few xs = ap (take few) more ∙ take-append-le few xs (n ∷ []) many in
      let absent = is_absent n p count xs is above e in
      elim (bool_cases (n == q)) [
        | inl same ↦
            let q_is : n ≡ q = eqb-true n q same in
            let there : place_among q ys ≡ Some (length xs) = ap (place_among q) more ∙ subst (λ m. place_among m (xs ++ n ∷ []) ≡ Some (length xs)) q_is (new_place n xs absent) in
            let out : is_among q (take few ys) ≡ false = ap (is_among q) front ∙ subst (λ m. is_among m (take few xs) ≡ false) q_is (not_in_front n few xs absent) in
            (updates.0 q ∙ rw same (ap Some e)) ∙ sym (ap (λ b. cond b None (place_among q ys)) out ∙ there)
        | inr other ↦
            let there : place_among q ys ≡ place_among q xs = ap (place_among q) more ∙ other_place q n xs other in
            (updates.0 q ∙ rw other (t.at q)) ∙ sym (ap (λ zs. cond (is_among q zs) None (place_among q ys)) front ∙ ap (cond (is_among q (take few xs)) None) there)
      ];
}

pub noted_same : {S : Type 0} (xs ys : List ℕ) (table next : HashMap ℕ ℕ S) → AreNoted xs table → xs ≡ ys → ((q : ℕ) → get nat_eq next q ≡ get nat_eq table q) → AreNoted ys next
noted_same xs ys table next t e u = subst (λ (zs : List ℕ). AreNoted zs next) e (record { at = λ q. u q ∙ t.at q })
