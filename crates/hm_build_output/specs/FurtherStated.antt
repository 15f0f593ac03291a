-- What is stated of the faults of one source of a refused set. No public clause names these.
use Rattle.std.specs.Prelude.{◌≡◌, ℕ, ◌+◌, ◌-◌, List, [], length, slice_index_or}
use Rattle.hm_run_sources.specs.Refusals.{Refusal, lex, parse, plan}
use Rattle.hm_messages.specs.FurtherFaults.{AreFaultsOf, AreLaterFaults}
use Rattle.hm_messages.specs.Messages.{AreEach}
use Rattle.hm_messages.specs.Refused.{AreRefusalMessages}
use Rattle.hm_messages.specs.declared.heading.MessageFormat.{MessageFormat}

-- lexical faults after this one in its source
abbrev pub AreLaterOf : List (List ℕ) → Refusal → List Refusal → Type 0
AreLaterOf sources (lex n fault) faults = AreLaterFaults (slice_index_or sources (n - 1) []) (lex n fault) faults
AreLaterOf sources (parse n fault) faults = faults ≡ []
AreLaterOf sources (plan fault m i) faults = faults ≡ []

-- messages of lexical faults after this one in its source, and their number
pub record IsLaterStated (format : MessageFormat) (files sources : List (List ℕ)) (refusal : Refusal) (errors : ℕ) (text : List ℕ) : Type 0 where
  pub faults : List Refusal
  pub later : AreLaterOf sources refusal faults
  pub each : AreEach (λ r t. AreRefusalMessages format files sources r 1 t) faults text
  pub count : errors ≡ length faults

-- messages of the faults of a source, counted from 0, and their number
pub record AreFaultsStated (format : MessageFormat) (files sources : List (List ℕ)) (source errors : ℕ) (text : List ℕ) : Type 0 where
  pub faults : List Refusal
  pub are : AreFaultsOf (source + 1) (slice_index_or sources source []) faults
  pub each : AreEach (λ r t. AreRefusalMessages format files sources r 1 t) faults text
  pub count : errors ≡ length faults
