-- The edit that writes a type in a signature (Report, section 4.4.1).
use Rattle.std.specs.Prelude.{◌≡◌, ◌≤◌, ℕ, List, [], ◌∷◌, ◌++◌, codes, false, length, take, slice_range}
use Rattle.hm_lex.specs.Cut.{place_after}
use Rattle.hm_messages_json.specs.Edits.{Changed}
use Rattle.hm_messages_changes.specs.declared.data.SourceRange.{SourceRange}

-- the beginning of a signature of this variable alone, as it is mostly written
abbrev pub front : List ℕ → List ℕ
front name = name ++ codes " ::"

abbrev pub IsOfOne : List ℕ → List ℕ → Type 0
IsOfOne name signature = (type : List ℕ) × (signature ≡ front name ++ type)

-- a signature of this variable with this type, in place of a part of the source. The checker hasn't accepted the source with it
abbrev pub retyped : List ℕ → List ℕ → SourceRange → List ℕ → Changed
retyped source name part own =
    record { start = place_after (take part.from source); end = place_after (take part.to source); text = front name ++ (codes " " ++ own); checked = false }

-- that edit, if the part is a signature of the variable alone. A place of a very long source may have more than 32 bits, so it has no edit
pub data IsRetyped (source name : List ℕ) (part : SourceRange) (own : List ℕ) (changes : List Changed) : Type 0 where
  is_retyped : IsOfOne name (slice_range source part.from part.to) → changes ≡ retyped source name part own ∷ [] → IsRetyped source name part own changes
  is_of_others : changes ≡ [] → ¬ (IsOfOne name (slice_range source part.from part.to)) → IsRetyped source name part own changes
  is_too_long : changes ≡ [] → 4294967295 ≤ length source → IsRetyped source name part own changes
