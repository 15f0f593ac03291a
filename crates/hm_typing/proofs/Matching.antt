-- The names of pattern bindings, and a pattern at other types of them.
use Rattle.std.proofs.Common.{◌≡◌, List, [], ◌∷◌, ◌++◌, Bool, true, inl, inr, ◌⊎◌, ⊎_elim, refl, subst}
use Rattle.hm_typing.specs.Names.{Identifier, IsOneOf, IsDistinct}
use Rattle.hm_typing.specs.Schemes.{Monotype}
use Rattle.hm_typing.specs.Syntax.{Pattern, Bindings, no_binding, unsigned, signed, matched, pattern_names, matched_names}
use Rattle.hm_typing.specs.Units.{IsUnsigned, BindingMentions, directly, AreUnits}
use Rattle.hm_typing.specs.Patterns.{Matches}
use Rattle.hm_typing.proofs.Local.{IsOneOf-left, IsOneOf-right, Matches-agree}

-- a name of two lists is one of the first or of the second
pub one_of : (x : Identifier) (xs ys : List Identifier) → IsOneOf x (xs ++ ys) → IsOneOf x xs ⊎ IsOneOf x ys
one_of x [] ys o = inr o
one_of x (z ∷ xs) ys (inl e) = inl (inl e)
one_of x (z ∷ xs) ys (inr o) = ⊎_elim (λ h. inl (inr h)) inr (one_of x xs ys o)

pub distinct_rest : (xs ys : List Identifier) → IsDistinct (xs ++ ys) → IsDistinct ys
distinct_rest [] ys d = d
distinct_rest (x ∷ xs) ys d = distinct_rest xs ys d.1

pub distinct_apart : (xs ys : List Identifier) → IsDistinct (xs ++ ys) → (x : Identifier) → IsOneOf x xs → ¬ (IsOneOf x ys)
distinct_apart [] ys d x o q = o
distinct_apart (y ∷ xs) ys d x (inl e) q = d.0 (subst (λ z. IsOneOf z (xs ++ ys)) e (IsOneOf-right x xs ys q))
distinct_apart (y ∷ xs) ys d x (inr o) q = distinct_apart xs ys d.1 x o q

pub own_name : (k : Identifier) (p : Pattern) → IsOneOf k (matched_names k p)
own_name k p = IsOneOf-right k (pattern_names p) (k ∷ []) (inl refl)

-- a pattern at other types of its names, and of its own
pub Matches-named : (k : Identifier) (p : Pattern) (τ ρ : Identifier → Monotype) → ((x : Identifier) → IsOneOf x (matched_names k p) → τ x ≡ ρ x) → Matches τ p (τ k) → Matches ρ p (ρ k)
Matches-named k p τ ρ a m = subst (Matches ρ p) (a k (own_name k p)) (Matches-agree p τ ρ (τ k) (λ x o. a x (IsOneOf-left x (pattern_names p) (k ∷ []) o)) m)

-- the names of each pattern binding are in one unit
abbrev pub AreTogether : (Identifier → Identifier → Bool) → Bindings → Type 0
AreTogether own no_binding = Unit {0}
AreTogether own (unsigned x cs D) = AreTogether own D
AreTogether own (signed x s cs D) = AreTogether own D
AreTogether own (matched k p cs D) = ((x y : Identifier) → IsOneOf x (matched_names k p) → IsOneOf y (matched_names k p) → own x y ≡ true) × AreTogether own D

pub together : (ds : Bindings) (own : Identifier → Identifier → Bool) → AreUnits ds own → AreTogether own ds
together ds own units = at ds (λ x i. i) (λ x y m. m)
  where
    at : (D : Bindings) → ((x : Identifier) → IsUnsigned x D → IsUnsigned x ds) → ((x y : Identifier) → BindingMentions x y D → BindingMentions x y ds) → AreTogether own D
    at no_binding u m = tt
    at (unsigned x cs D) u m = at D (λ y i. u y (inr i)) (λ y z i. m y z (inr i))
    at (signed x s cs D) u m = at D (λ y i. u y i) (λ y z i. m y z (inr i))
    at (matched k p cs D) u m = (
      (λ x y o q. (units.1 x y).1 (u x (inl o), u y (inl q), inr (directly (m x y (inl (o, inl q)), u y (inl q)), directly (m y x (inl (q, inl o)), u x (inl o))))),
      at D (λ y i. u y (inr i)) (λ y z i. m y z (inr i)),
    )
