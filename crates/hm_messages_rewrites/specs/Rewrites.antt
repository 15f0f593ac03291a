-- The change of a source that writes a text in place of another one.
use Rattle.std.specs.Prelude.{◌≡◌, ◌≤◌, ℕ, ◌+◌, List, [], ◌∷◌, ◌++◌, Option, None, Some, false, length}
use Rattle.hm_lex.specs.declared.token.Place.{Place}
use Rattle.hm_messages_excerpts.specs.Excerpts.{IsPlaceIn, IsRestOfLine}
use Rattle.hm_messages_json.specs.Edits.{Changed}

-- the place after so many bytes on the line
abbrev pub place_after : Place → ℕ → Place
place_after p n = record { line = p.line; column = p.column + n }

-- a text in place of so many bytes. The checker hasn't accepted the source with it
abbrev pub rewrite : Place → ℕ → List ℕ → Changed
rewrite p n text = record { start = p; end = place_after p n; text = text; checked = false }

-- this is the only change, or there is none because the column of its end has more than 32 bits
pub data IsWritten (p : Place) (n : ℕ) (text : List ℕ) (changes : List Changed) : Type 0 where
  is_written : changes ≡ rewrite p n text ∷ [] → IsWritten p n text changes
  is_far : changes ≡ [] → 4294967296 ≤ p.column + n → IsWritten p n text changes

-- the text is at the place, on one line
abbrev pub IsAtPlace : List ℕ → Place → List ℕ → Type 0
IsAtPlace source p text = (after : List ℕ) × IsRestOfLine source p (text ++ after)

-- another text is at the place
abbrev pub IsOtherwise : List ℕ → Place → List ℕ → Type 0
IsOtherwise source p text = (rest : List ℕ) × IsRestOfLine source p rest × ((after : List ℕ) → ¬ (rest ≡ text ++ after))

-- the new text in place of the old one, if that is at the place
pub data IsRewritten (source : List ℕ) (p : Place) (old new : List ℕ) (changes : List Changed) : Type 0 where
  is_rewritten : IsAtPlace source p old → IsWritten p (length old) new changes → IsRewritten source p old new changes
  is_otherwise : changes ≡ [] → IsOtherwise source p old → IsRewritten source p old new changes
  is_outside : changes ≡ [] → ¬ (IsPlaceIn source p) → IsRewritten source p old new changes

-- the same with the new text, or no change without one
abbrev pub IsRewrittenBy : List ℕ → Place → List ℕ → Option (List ℕ) → List Changed → Type 0
IsRewrittenBy source p old None changes = changes ≡ []
IsRewrittenBy source p old (Some new) changes = IsRewritten source p old new changes
