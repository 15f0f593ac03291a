-- Worked examples: a text with an edit, the messages and candidates of a fault, and those for a range.
use Rattle.std.specs.Prelude.{◌≡◌, ℕ, [], ◌∷◌, codes, false}
use Rattle.hm_messages_json.specs.declared.message.Level.TheVariants.{Error, Note}
use Rattle.hm_messages_json.specs.declared.message.Position.{Position}
use Rattle.hm_service_candidates.specs.Candidates.{AreCandidates, AreMessagesOf, IsCandidate}
use Rattle.hm_service_candidates.specs.Edited.{IsEditedFrom}
use Rattle.hm_service_candidates.specs.Ranges.{AreCandidatesIn, IsIn, tried}
use Rattle.hm_service_candidates.specs.declared.ranges.SourceRange.{SourceRange}
use Rattle.hm_service_messages.specs.Lines.{Change}
use Rattle.hm_service_messages.specs.declared.diagnostic.Diagnostic.{Diagnostic}

-- a position in a line of ASCII
abbrev pub at : ℕ → ℕ → Position
at line column = record { line = line; columns = record { bytes = column; characters = column; utf16 = column } }

-- z in place of the third character
abbrev pub third : Change
third = record { start = at 1 3; end = at 1 4; text = codes "z"; checked = false }

-- the edit is made, and without it the text stays as it is
pub record EditedRow : Type 0 where
  pub made : IsEditedFrom (codes "f x y") 0 (third ∷ []) (codes "f z y")
  pub not_more : ¬ (IsEditedFrom (codes "f x y") 0 [] (codes "f z y"))

-- an error without notes is all that is said of its fault. If it says no change, it is no candidate
pub record CandidateRow : Type 0 where
  pub alone : (d : Diagnostic) → d.level ≡ Error → AreMessagesOf (d ∷ []) 0 (d ∷ [])
  pub one : (d : Diagnostic) → d.level ≡ Error → d.source ≡ 0 → ¬ (d.edits.items ≡ []) → AreCandidates (d ∷ []) 0 0 (d ∷ [])
  pub not_silent : (d : Diagnostic) → d.edits.items ≡ [] → ¬ (IsCandidate 0 d)

-- an error in the range that says a change is tried. A note without an error isn't
pub record RangeRow : Type 0 where
  pub one : (d : Diagnostic) (r : SourceRange) → d.level ≡ Error → IsIn r d → ¬ (d.edits.items ≡ []) → AreCandidatesIn (d ∷ []) r (tried d d ∷ [])
  pub not_note : (d : Diagnostic) (r : SourceRange) → d.level ≡ Note → ¬ (AreCandidatesIn (d ∷ []) r (tried d d ∷ []))
