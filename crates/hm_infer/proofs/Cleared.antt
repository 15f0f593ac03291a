-- The variables of the nodes of a group are taken back.
use Rattle.std.proofs.Common.{◌≡◌, ℕ, ◌+◌, ◌<◌, ◌≤◌, List, length, set, get_or, sym, ap, ◌∙◌, subst, arith, length-set, get_or-set_same, get_or-set_other}
use native.Mathlib.Decide.{ℕ_discrete}
use Rattle.hm_typing.specs.Names.{IsOneOf}
use Rattle.hm_infer_expressions.proofs.Placing.{place_in}
use Rattle.hm_infer_expressions.specs.OpenGroups.{AreUpTo, ChangesOnly}

-- a node without a variable is in the group only from the place i on
abbrev pub AreClearedBefore : ℕ → List ℕ → List ℕ → Type 0
AreClearedBefore i group types = (j : ℕ) → j < length types → ((p : ℕ) → i ≤ p → p < length group → ¬ (get_or group p 0 ≡ j)) → get_or types j 0 ≡ 0

pub cleared_none : (group types : List ℕ) → ((j : ℕ) → j < length types → ¬ (IsOneOf j group) → get_or types j 0 ≡ 0) → AreClearedBefore 0 group types
cleared_none group types h j l n = h j l (λ o. let p = place_in j group o in n p.0 (omega arith) p.1 p.2)

pub cleared_step : (group types new : List ℕ) (i : ℕ) → i < length group → get_or group i 0 < length types → new ≡ set types (get_or group i 0) 0 → AreClearedBefore i group types → AreClearedBefore (i + 1) group new
cleared_step group types new i l b e h j m n = at (ℕ_discrete j (get_or group i 0))
  where
    inside : j < length types
    inside = (let k : length new ≡ length (set types (get_or group i 0) 0) = ap length e in let s = length-set types (get_or group i 0) 0 in omega (arith, k, s, m))

    at : Dec (j ≡ get_or group i 0) → get_or new j 0 ≡ 0
    at (yes s) = ap (λ z. get_or z j 0) e ∙ (ap (λ z. get_or (set types (get_or group i 0) 0) z 0) s ∙ get_or-set_same types (get_or group i 0) 0 0 b)
    at (no o) = ap (λ z. get_or z j 0) e ∙ (get_or-set_other types (get_or group i 0) j 0 0 o ∙ h j inside within)
      where
        within : (p : ℕ) → i ≤ p → p < length group → ¬ (get_or group p 0 ≡ j)
        within p a q f = by_place (ℕ_discrete p i)
          where
            by_place : Dec (p ≡ i) → ⊥
            by_place (yes s) = o (sym f ∙ ap (λ z. get_or group z 0) s)
            by_place (no d) = n p (omega (arith, a, d)) q f

pub cleared_all : (group types : List ℕ) (i : ℕ) → length group ≤ i → AreClearedBefore i group types → AreUpTo 0 types
cleared_all group types i l h j m = let e = h j m (λ p a q f. absurd (omega (arith, l, a, q))) in omega (arith, e)

-- what was empty and is changed at a group alone is empty elsewhere
pub empty_elsewhere : (group old new : List ℕ) → length new ≡ length old → AreUpTo 0 old → ChangesOnly group old new → (j : ℕ) → j < length new → ¬ (IsOneOf j group) → get_or new j 0 ≡ 0
empty_elsewhere group old new s a c j l n = let e = c j n in let b = a j (omega (arith, s, l)) in omega (arith, e, b)
