-- The changes that are tried for a range of a source.
use Rattle.std.specs.Prelude.{◌≡◌, ℕ, zero, suc, ◌++◌, All, List, [], Some, length, map, slice_get, take}
use Rattle.std.specs.List.{Any}
use Rattle.hm_messages_json.specs.declared.message.Level.TheVariants.{Error, Note}
use Rattle.hm_service_candidates.specs.Candidates.{AreCandidates, AreMessagesOf, most_tried}
use Rattle.hm_service_candidates.specs.declared.ranges.Candidate.{Candidate}
use Rattle.hm_service_candidates.specs.declared.ranges.SourceRange.{SourceRange}
use Rattle.hm_service_messages.specs.Choices.{Overlaps}
use Rattle.hm_service_messages.specs.declared.diagnostic.Diagnostic.{Diagnostic}

-- an error, and a message that says a change for it
pub record Tried : Type 0 where
  pub fault : Diagnostic
  pub change : Diagnostic

abbrev pub tried : Diagnostic → Diagnostic → Tried
tried f d = record { fault = f; change = d }

abbrev pub tried_of : Candidate → Tried
tried_of c = tried c.fault.now c.change.now

-- the message has a place in common with the range
abbrev pub IsIn : SourceRange → Diagnostic → Type 0
IsIn r d = (d.source ≡ r.source) × Overlaps r.start r.end d

-- the candidates of message number k that are tried for the range: those of an error of the source, if one of its messages is in the range, and none of
-- another message
pub data AreOwn (told : List Diagnostic) (r : SourceRange) (k : ℕ) (found : List Diagnostic) : Type 0 where
  within : {f : Diagnostic} {own : List Diagnostic} → slice_get told k ≡ Some f → f.level ≡ Error → f.source ≡ r.source → AreMessagesOf told k own → Any (IsIn r) own → AreCandidates told r.source k found → AreOwn told r k found
  outside : {own : List Diagnostic} → AreMessagesOf told k own → All (λ d. ¬ (IsIn r d)) own → found ≡ [] → AreOwn told r k found
  note : {f : Diagnostic} → slice_get told k ≡ Some f → f.level ≡ Note → found ≡ [] → AreOwn told r k found
  elsewhere : {f : Diagnostic} → slice_get told k ≡ Some f → ¬ (f.source ≡ r.source) → found ≡ [] → AreOwn told r k found

-- those of the first messages
abbrev pub AreFirstIn : List Diagnostic → SourceRange → ℕ → List Tried → Type 0
AreFirstIn told r zero found = found ≡ []
AreFirstIn told r (suc k) found =
    (f : Diagnostic) × ((before : List Tried) × ((own : List Diagnostic) × ((slice_get told k ≡ Some f) × (AreFirstIn told r k before × (AreOwn told r k own × (found ≡ before ++ map (tried f) own))))))

-- the changes that are tried for the range: those of all messages, in order. Only the first few are tried
pub record AreCandidatesIn (told : List Diagnostic) (r : SourceRange) (found : List Tried) : Type 0 where
  pub all : List Tried
  pub are : AreFirstIn told r (length told) all
  pub few : found ≡ take most_tried all
