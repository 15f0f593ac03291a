-- What a note that says the limit on trials rules out after it.
use Rattle.std.specs.Prelude.{◌≡◌, Bool, false, true, ℕ, List, [], slice_index_or}
use Rattle.hm_messages_details.specs.Details.{Known}
use Rattle.hm_names.specs.declared.faults.Fault.{Fault}
use Rattle.hm_verdicts.specs.Sets.{ModuleSet}
use Rattle.hm_verdicts.specs.Verdicts.{Status}
use Rattle.hm_messages.specs.Messages.{AreEach, IsFaultMessage}
use Rattle.hm_messages.specs.declared.heading.MessageFormat.{MessageFormat}
use Rattle.hm_build_messages.specs.Explanations.{IsFaultyStated, IsLimitNote}

-- the message of a fault without notes
abbrev pub IsAlone : MessageFormat → List ℕ → List ℕ → Fault → List ℕ → Type 0
IsAlone format file source f text = (known : Known) × IsFaultMessage format file source f known text

-- If the limit was said before a module, only messages without notes are stated of its faults. No text is a last note then, and that it wasn't stated isn't one
pub record LimitsRow : Type 0 where
  pub once : (format : MessageFormat) (files texts : List (List ℕ)) (source : ℕ) (p : ModuleSet) (status : ℕ → Status) (i : ℕ) (faults : List Fault) (after : Bool) (text : List ℕ)
      → IsFaultyStated format files texts source p status i faults true after text
      → (after ≡ true) × AreEach (IsAlone format (slice_index_or files source []) (slice_index_or texts source [])) faults text
  pub quiet : (format : MessageFormat) (file source : List ℕ) (f : Fault) → IsLimitNote format file source f true true []
  pub again : (format : MessageFormat) (file source : List ℕ) (f : Fault) (text : List ℕ) → ¬ (IsLimitNote format file source f true false text)
