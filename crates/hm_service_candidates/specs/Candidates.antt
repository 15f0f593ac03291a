-- The changes of a source that are tried for a fault: those that its messages say.
use Rattle.std.specs.Prelude.{◌≡◌, ◌<◌, ◌≤◌, ℕ, List, [], get_or, length, slice_range, take}
use Rattle.hm_messages_json.specs.declared.message.Level.TheVariants.{Error, Note}
use Rattle.hm_service_messages.specs.Choices.{AreChosen}
use Rattle.hm_service_messages.specs.declared.diagnostic.Diagnostic.{Diagnostic}

-- the messages of the fault that message number k of a run reports: this message, and the notes after it up to the next error
pub record AreMessagesOf (told : List Diagnostic) (k : ℕ) (own : List Diagnostic) : Type 0 where
  pub end : ℕ
  pub some : k < end
  pub within : end ≤ length told
  pub notes : (i : ℕ) (d : Diagnostic) → k < i → i < end → (get_or told i d).level ≡ Note
  pub next : (d : Diagnostic) → end < length told → (get_or told end d).level ≡ Error
  pub are : own ≡ slice_range told k end

-- the message is about source number n, and says a change of it
abbrev pub IsCandidate : ℕ → Diagnostic → Type 0
IsCandidate n d = (d.source ≡ n) × ¬ (d.edits.items ≡ [])

-- no more changes are tried
abbrev pub most_tried : ℕ
most_tried = 8

-- the candidates of a fault: its messages that say a change of the source, in order. Only the first few are tried
pub record AreCandidates (told : List Diagnostic) (n k : ℕ) (found : List Diagnostic) : Type 0 where
  pub own : List Diagnostic
  pub messages : AreMessagesOf told k own
  pub all : List Diagnostic
  pub chosen : AreChosen (IsCandidate n) own all
  pub few : found ≡ take most_tried all
