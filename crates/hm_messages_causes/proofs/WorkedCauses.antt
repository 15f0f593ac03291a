-- The worked verdicts of two definitions.
use Rattle.std.proofs.Common.{◌≡◌, ℕ, List, [], ◌∷◌, All, Contains, get_or, ap, arith, refl}
use Rattle.std.specs.Prelude.{codes}
use Rattle.std.proofs.lemmas.List.Elements.{All-contains, All-cons}
use Rattle.hm_names.specs.declared.faults.Fault.{Fault}
use Rattle.hm_messages_trials.specs.TypedSources.{IsElsewhere}
use Rattle.hm_messages_causes.specs.Worked.{CauseRow, fault_of}

none : {X : Type 0} (P : X → Type 0) → All P []
none P i d l = absurd (omega (arith, l))

f_h : ¬ (codes "f" ≡ codes "h")
f_h e = let different : 102 ≡ 104 = ap (λ (l : List ℕ). get_or l 0 0) e in absurd (omega (arith, different))

g_h : ¬ (codes "g" ≡ codes "h")
g_h e = let different : 103 ≡ 104 = ap (λ (l : List ℕ). get_or l 0 0) e in absurd (omega (arith, different))

f_g : ¬ (codes "f" ≡ codes "g")
f_g e = let different : 102 ≡ 103 = ap (λ (l : List ℕ). get_or l 0 0) e in absurd (omega (arith, different))

not_among : (names : List (List ℕ)) (x : List ℕ) → All (λ (n : List ℕ). ¬ (n ≡ x)) names → ¬ (Contains names x)
not_among names x all there = All-contains (λ (n : List ℕ). ¬ (n ≡ x)) names x all there refl

only : (names : List (List ℕ)) (x : List ℕ) → All (λ (n : List ℕ). ¬ (n ≡ x)) names → All (IsElsewhere names) (fault_of x ∷ [])
only names x all = All-cons (IsElsewhere names) (fault_of x) [] (refl, not_among names x all) (none (IsElsewhere names))

not_h : All (λ (n : List ℕ). ¬ (n ≡ codes "h")) (codes "f" ∷ codes "g" ∷ [])
not_h = All-cons (λ (n : List ℕ). ¬ (n ≡ codes "h")) (codes "f") (codes "g" ∷ []) f_h (All-cons (λ (n : List ℕ). ¬ (n ≡ codes "h")) (codes "g") [] g_h (none (λ (n : List ℕ). ¬ (n ≡ codes "h"))))

not_g : All (λ (n : List ℕ). ¬ (n ≡ codes "g")) (codes "f" ∷ [])
not_g = All-cons (λ (n : List ℕ). ¬ (n ≡ codes "g")) (codes "f") [] f_g (none (λ (n : List ℕ). ¬ (n ≡ codes "g")))

not_both : ¬ (All (IsElsewhere (codes "f" ∷ codes "g" ∷ [])) (fault_of (codes "g") ∷ []))
not_both all = (all 0 (fault_of (codes "g")) (omega arith)).1 (1, omega arith, refl)

pub worked_causes : CauseRow
worked_causes = record { both = only (codes "f" ∷ codes "g" ∷ []) (codes "h") not_h; one = only (codes "f" ∷ []) (codes "g") not_g; not_both = not_both }
