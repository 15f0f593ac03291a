-- Chosen members of a list: with one more at the end, and that there is one list of them.
use Rattle.std.proofs.Common.{◌≡◌, List, [], ◌∷◌, ◌++◌, ◌∙◌, inl, inr, refl, sym, ap}
use Rattle.hm_uses_references.specs.References.{AreChosen}

pub chosen_with : {X : Type 0} (P : X → Type 0) (xs : List X) (x : X) (chosen : List X) → AreChosen P xs chosen → P x → AreChosen P (xs ++ x ∷ []) (chosen ++ x ∷ [])
chosen_with {X} P [] x chosen h p = inl (p, ([], (ap (λ (l : List X). l ++ x ∷ []) h, refl)))
chosen_with {X} P (y ∷ ys) x chosen h p = elim h [
  | inl w ↦ inl (w.0, (w.1.0 ++ x ∷ [], (ap (λ (l : List X). l ++ x ∷ []) w.1.1.0, chosen_with P ys x w.1.0 w.1.1.1 p)))
  | inr w ↦ inr (w.0, chosen_with P ys x chosen w.1 p)
]

pub chosen_without : {X : Type 0} (P : X → Type 0) (xs : List X) (x : X) (chosen : List X) → AreChosen P xs chosen → (P x → ⊥) → AreChosen P (xs ++ x ∷ []) chosen
chosen_without P [] x chosen h p = inr (p, h)
chosen_without P (y ∷ ys) x chosen h p = elim h [
  | inl w ↦ inl (w.0, (w.1.0, (w.1.1.0, chosen_without P ys x w.1.0 w.1.1.1 p)))
  | inr w ↦ inr (w.0, chosen_without P ys x chosen w.1 p)
]

pub one_choice : {X : Type 0} (P : X → Type 0) (xs some others : List X) → AreChosen P xs some → AreChosen P xs others → some ≡ others
one_choice P [] some others h k = h ∙ sym k
one_choice {X} P (x ∷ xs) some others h k = elim h [
  | inl w ↦ elim k [
    | inl v ↦ w.1.1.0 ∙ (ap (λ (l : List X). x ∷ l) (one_choice P xs w.1.0 v.1.0 w.1.1.1 v.1.1.1) ∙ sym v.1.1.0)
    | inr v ↦ absurd (v.0 w.0)
  ]
  | inr w ↦ elim k [
    | inl v ↦ absurd (w.0 v.0)
    | inr v ↦ one_choice P xs some others w.1 v.1
  ]
]
