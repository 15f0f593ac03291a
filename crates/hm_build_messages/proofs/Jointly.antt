-- A note that is kept if there are no others in place of it.
use Rattle.std.proofs.Common.{◌≡◌, ◌∙◌, ◌⊎◌, List, ℕ, [], inl, inr, sym, subst}

module _ (note kept others : List ℕ) where
  abbrev pub IsKept : Type 0
  IsKept = ((kept ≡ note) × (others ≡ [])) ⊎ (kept ≡ [])

  pub kept_noted : (P : List ℕ → Type 0) → IsKept → (note ≡ []) ⊎ P note → (kept ≡ []) ⊎ P kept
  kept_noted P (inl (same, none)) (inl empty) = inl (same ∙ empty)
  kept_noted P (inl (same, none)) (inr h) = inr (subst P (sym same) h)
  kept_noted P (inr left) h = inl left

  pub kept_alone : (P : Type 0) → IsKept → (others ≡ []) ⊎ P → (others ≡ []) ⊎ ((kept ≡ []) × P)
  kept_alone P (inl (same, none)) h = inl none
  kept_alone P (inr left) (inl none) = inl none
  kept_alone P (inr left) (inr h) = inr (left, h)
