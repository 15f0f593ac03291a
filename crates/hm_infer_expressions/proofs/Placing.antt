-- The nodes of a group are given variables.
use Rattle.std.proofs.Common.{◌≡◌, ℕ, zero, suc, ◌+◌, ◌<◌, ◌≤◌, List, [], ◌∷◌, set, length, get_or, Option, Some, None, inl, inr, ◌⊎◌, ⊎_elim, refl, sym, ap, ◌∙◌, subst, arith, length-set, get_or-set_same, get_or-set_other}
use native.Mathlib.Decide.{ℕ_discrete}
use Rattle.hm_typing.specs.Names.{IsOneOf}
use Rattle.hm_infer_expressions.specs.BoundNames.{ArePlaced}
use Rattle.hm_infer_expressions.specs.GroupQuestions.{AreGivenTypes}

abbrev pub PlacedBelow : ℕ → List ℕ → List ℕ → ℕ → Type 0
PlacedBelow first group types n = (p : ℕ) → p < n → (q : ℕ) × (q < n) × (get_or group q 0 ≡ get_or group p 0) × (get_or types (get_or group p 0) 0 ≡ first + q)

pub placed_step : (first : ℕ) (group types new : List ℕ) (n : ℕ) → n < length group → get_or group n 0 < length types → new ≡ set types (get_or group n 0) (first + n) → PlacedBelow first group types n → PlacedBelow first group new (n + 1)
placed_step first group types new n l b e f p h = at (ℕ_discrete (get_or group p 0) (get_or group n 0))
  where
    at : Dec (get_or group p 0 ≡ get_or group n 0) → (q : ℕ) × (q < n + 1) × (get_or group q 0 ≡ get_or group p 0) × (get_or new (get_or group p 0) 0 ≡ first + q)
    at (yes k) = (n, omega arith, sym k, ap (λ z. get_or z (get_or group p 0) 0) e ∙ (ap (λ z. get_or (set types (get_or group n 0) (first + n)) z 0) k ∙ get_or-set_same types (get_or group n 0) (first + n) 0 b))
    at (no m) =
        let old = ⊎_elim (λ q. absurd (m (ap (λ z. get_or group z 0) q))) (λ q. f p q) (Rattle.std.proofs.Common.eq-or-lt_of_le (le h)) in
        (old.0, (let q = old.1 in omega arith), old.2, ap (λ z. get_or z (get_or group p 0) 0) e ∙ (get_or-set_other types (get_or group n 0) (get_or group p 0) (first + n) 0 (λ q. m q) ∙ old.3))
      where
        le : p < n + 1 → p ≤ n
        le q = omega arith

pub place_in : (j : ℕ) (group : List ℕ) → IsOneOf j group → (p : ℕ) × (p < length group) × (get_or group p 0 ≡ j)
place_in j [] o = absurd o
place_in j (k ∷ group) (inl e) = (zero, omega arith, sym e)
place_in j (k ∷ group) (inr o) = let h = place_in j group o in (suc h.0, (let l = h.1 in omega arith), h.2)

is_in : (group : List ℕ) (p : ℕ) → p < length group → IsOneOf (get_or group p 0) group
is_in [] p l = absurd (omega (arith, l))
is_in (k ∷ group) zero l = inl refl
is_in (k ∷ group) (suc p) l = inr (is_in group p (omega (arith, l)))

pub elsewhere : (group types : List ℕ) (n j v : ℕ) → n < length group → ¬ (IsOneOf j group) → get_or (set types (get_or group n 0) v) j 0 ≡ get_or types j 0
elsewhere group types n j v l m = get_or-set_other types (get_or group n 0) j v 0 (λ e. m (subst (λ z. IsOneOf z group) (sym e) (is_in group n l)))

pub placed_all : (first : ℕ) (group types : List ℕ) (n : ℕ) → length group ≤ n → n ≤ length group → PlacedBelow first group types n → ArePlaced first group types
placed_all first group types n l m f j o =
    let p = place_in j group o in
    let q = f p.0 (let a = p.1 in omega arith) in
    (q.0, (let a = q.1 in omega arith), q.2 ∙ p.2, ap (λ z. get_or types z 0) (sym p.2) ∙ q.3)

pub placed_none : (first : ℕ) (group types : List ℕ) → PlacedBelow first group types 0
placed_none first group types p h = absurd (omega arith)

pub types_set : (g : ℕ) (types : List ℕ) (i v : ℕ) → v < g → AreGivenTypes g types → AreGivenTypes g (set types i v)
types_set g types i v h a j l = at (ℕ_discrete j i)
  where
    inside : j < length types
    inside = let e = length-set types i v in omega (arith, e, l)

    at : Dec (j ≡ i) → get_or (set types i v) j 0 < g
    at (yes e) = subst (λ z. z < g) (sym (ap (λ z. get_or (set types z v) j 0) (sym e) ∙ get_or-set_same types j v 0 inside)) h
    at (no n) = subst (λ z. z < g) (sym (get_or-set_other types i j v 0 n)) (a j inside)

pub strictly_below : (g h : ℕ) (types : List ℕ) → g < h → ((j : ℕ) → j < length types → get_or types j 0 ≤ g) → AreGivenTypes h types
strictly_below g h types l a j b = let m = a j b in omega (arith, m)
