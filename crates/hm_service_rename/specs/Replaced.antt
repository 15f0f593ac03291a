-- The texts of a set with a new name in place of references.
use Rattle.std.specs.Prelude.{◌≡◌, ℕ, zero, suc, ◌++◌, All, List, [], ◌∷◌, length, slice_index_or}
use Rattle.hm_uses_references.specs.declared.finding.Reference.{Reference}
use Rattle.hm_uses_renames.specs.Texts.{IsReplaced}

-- the first n texts, each with the new name in place of the references in it. The references are in the order of the texts
abbrev pub AreFirstReplaced : List (List ℕ) → List ℕ → ℕ → List Reference → List (List ℕ) → Type 0
AreFirstReplaced texts new zero references made = (references ≡ []) × (made ≡ [])
AreFirstReplaced texts new (suc n) references made =
    (before : List Reference) × ((own : List Reference) × ((first : List (List ℕ)) × ((one : List ℕ) × (AreFirstReplaced texts new n before first
    × (All (λ r. r.source ≡ n) own × (IsReplaced (slice_index_or texts n []) new own one × ((references ≡ before ++ own) × (made ≡ first ++ one ∷ []))))))))

-- all texts
abbrev pub AreReplaced : List (List ℕ) → List ℕ → List Reference → List (List ℕ) → Type 0
AreReplaced texts new references made = AreFirstReplaced texts new (length texts) references made
