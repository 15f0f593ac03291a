-- A type whose variables are numbered in order is its own canonical form.
use Rattle.std.proofs.Common.{◌≡◌, ℕ, zero, suc, ◌+◌, ◌<◌, ◌≤◌, ◌==◌, true, false, List, [], ◌∷◌, ◌++◌, length, get_or, take, Option, Some, None, SomeIff, IfSome, inl, inr, refl, sym, ap, subst, ◌∙◌, arith}
use Rattle.std.proofs.lemmas.Bool.{eqb-true, eqb-false, ne_eqb}
use Rattle.std.proofs.lemmas.List.{take_all, length-map}
use Rattle.hm_types.specs.declared.monotypes.Ty.{Ty}
use Rattle.hm_types.specs.declared.monotypes.Ty.TheVariants.{Var}
use Rattle.hm_types.specs.Types.{Var as leaf}
use Rattle.hm_types.specs.Monotypes.{Mono, var, arguments_of}
use Rattle.hm_types.specs.Shape.{type_of, types_of}
use Rattle.hm_types.specs.Substitution.{substitute, identity}
use Rattle.hm_types.specs.Schemes.{IsScheme, HasArities, HasNoRigid, is_among, place, numbering, variables, variables_after, variables_after_all, canonical_of, count_up}
use Rattle.hm_types.proofs.Substitution.{bool_cases, or_right, subst_same, subst_var}
use Rattle.hm_types.proofs.Quantified.{occurs_seen, seen_more}
use Rattle.hm_types.proofs.InOrder.{canonical_is_scheme}

among_counted : (m k n : ℕ) → k ≤ n → n < k + m → is_among n (count_up k m) ≡ true
among_counted zero k n low high = absurd (omega (arith, low, high))
among_counted (suc m) k n low high = elim (bool_cases (n == k)) [
  | inl same ↦ rw same refl
  | inr other ↦
      let apart = eqb-false n k other in
      or_right (n == k) (is_among n (count_up (k + 1) m)) (among_counted m (k + 1) n (omega (arith, low, apart)) (omega (arith, high)))
]

not_among_counted : (m k n : ℕ) → k + m ≤ n → is_among n (count_up k m) ≡ false
not_among_counted zero k n above = refl
not_among_counted (suc m) k n above =
    let other : (n == k) ≡ false = ne_eqb n k (λ e. omega (arith, e, above)) in
    rw other (not_among_counted m (k + 1) n (omega (arith, above)))

counted_more : (m k n : ℕ) → n ≡ k + m → count_up k m ++ n ∷ [] ≡ count_up k (m + 1)
counted_more zero k n e = ap (λ i. i ∷ []) (omega (arith, e))
counted_more (suc m) k n e =
    let rest : count_up (k + 1) m ++ n ∷ [] ≡ count_up (k + 1) (m + 1) = counted_more m (k + 1) n (omega (arith, e)) in
    let many : suc (m + 1) ≡ suc m + 1 = omega arith in
    ap (λ xs. k ∷ xs) rest ∙ ap (count_up k) many

pub seen_before : (next n : ℕ) → n < next → variables_after (count_up 0 next) (leaf (var n)) ≡ count_up 0 next
seen_before next n below = let here : is_among n (count_up 0 next) ≡ true = among_counted next 0 n (omega arith) (omega (arith, below)) in rw here refl

seen_last : (next n : ℕ) → n ≡ next → variables_after (count_up 0 next) (leaf (var n)) ≡ count_up 0 (next + 1)
seen_last next n is = let absent : is_among n (count_up 0 next) ≡ false = not_among_counted next 0 n (omega (arith, is)) in rw absent (counted_more next 0 n (omega (arith, is)))

pub seen_next : (t : Ty) (next n : ℕ) (fits : Type 0) (result : Option ℕ) → t ≡ Var n → n ≤ next → next ≤ n → SomeIff result fits (next + 1) → IfSome result (λ count. variables_after (count_up 0 next) (type_of t) ≡ count_up 0 count)
seen_next t next n fits None is low high told = tt
seen_next t next n fits (Some count) is low high told =
    ap (λ u. variables_after (count_up 0 next) (type_of u)) is ∙ seen_last next n (omega (arith, low, high)) ∙ ap (count_up 0) (sym told.1)

long : (m k : ℕ) → length (count_up k m) ≡ m
long zero k = refl
long (suc m) k = ap suc (long m (k + 1))

placed : (m k n : ℕ) → is_among n (count_up k m) ≡ true → k + place n (count_up k m) ≡ n
placed zero k n here = absurd (cc)
placed (suc m) k n here = elim (bool_cases (n == k)) [
  | inl same ↦
      let is : n ≡ k = eqb-true n k same in
      rw same (omega (arith, is))
  | inr other ↦
      let rest : k + 1 + place n (count_up (k + 1) m) ≡ n = placed m (k + 1) n (rw other at here) in
      rw other (omega (arith, rest))
]

pub own_canonical : (t : Mono) (n : ℕ) → variables t ≡ count_up 0 n → record { vars = n; body = t } ≡ canonical_of t
own_canonical t n e =
    let many : n ≡ length (variables t) = sym (ap length e ∙ long n 0) in
    let kept : substitute (numbering (count_up 0 n)) t ≡ substitute identity t =
    subst_same (numbering (count_up 0 n)) identity t
    (λ m o. let there : place m (count_up 0 n) ≡ m = omega (arith, placed n 0 m (ap (is_among m) (sym e) ∙ occurs_seen m [] t o)) in ap (λ k. leaf (var k)) there) in
    let body : t ≡ substitute (numbering (variables t)) t = sym (ap (λ xs. substitute (numbering xs) t) e ∙ kept ∙ subst_var t) in
    λ i. record { vars = many i; body = body i }

-- the scheme of a copy
pub copied_scheme : (t u : Mono) (n : ℕ) → u ≡ t → variables t ≡ count_up 0 n → record { vars = n; body = u } ≡ canonical_of t
copied_scheme t u n is e = ap (λ b. record { vars = n; body = b }) is ∙ own_canonical t n e

pub copied_valid : (t u : Mono) (n : ℕ) → u ≡ t → variables t ≡ count_up 0 n → HasNoRigid t → HasArities t → IsScheme (record { vars = n; body = u })
copied_valid t u n is e no_rigid arities = subst IsScheme (sym (copied_scheme t u n is e)) (canonical_is_scheme t no_rigid arities)

-- one argument more, and all
pub counted_argument : (start : List ℕ) (ts : List Ty) (i : ℕ) (d : Ty) (before count : ℕ) → i < length ts → d ≡ get_or ts i d → variables_after_all start (arguments_of (take i (types_of ts))) ≡ count_up 0 before
    → variables_after (count_up 0 before) (type_of d) ≡ count_up 0 count → variables_after_all start (arguments_of (take (i + 1) (types_of ts))) ≡ count_up 0 count
counted_argument start ts i d before count below is done here = sym (seen_more start (count_up 0 before) (count_up 0 count) ts i d below is (sym done) (sym here))

pub counted_arguments : (start : List ℕ) (t : Mono) (ts : List Ty) (i count : ℕ) → length ts ≤ i → variables_after start t ≡ variables_after_all start (arguments_of (types_of ts))
    → variables_after_all start (arguments_of (take i (types_of ts))) ≡ count_up 0 count → variables_after start t ≡ count_up 0 count
counted_arguments start t ts i count all whole done = whole ∙ sym (ap (λ us. variables_after_all start (arguments_of us)) (take_all i (types_of ts) (rw (length-map ts type_of) all))) ∙ done
