-- The output of a run with these options: what it writes to each of its two writers.
use Rattle.std.specs.Prelude.{◌≡◌, ℕ, List, [], Option, Some, None, map, string_bytes}
use Rattle.std.specs.Global.{Global, Vec}
use Rattle.std.specs.declared.string.String.{String}
use Rattle.hm_build_listing.specs.Listed.{IsListed}
use Rattle.hm_build_messages.specs.Explained.{IsExplained, StatesExhaustion}
use Rattle.hm_build_messages.specs.declared.options.MessageOptions.{MessageOptions}
use Rattle.hm_build_output.specs.JournalledRuns.{IsRun}
use Rattle.hm_build_output.specs.declared.options.RunOptions.{RunOptions}
use Rattle.hm_run_sources.specs.declared.status.Status.{Status}

-- what is written for a run with this status and this text: the text itself, or JSON objects with the names of the sources' files
abbrev pub IsWrittenAs : Option (Vec (String Global)) → List (List ℕ) → Status → List ℕ → List ℕ → Type 0
IsWrittenAs None sources status text written = written ≡ text
IsWrittenAs (Some names) sources status text written = IsListed (map string_bytes names.items) sources status text written

-- the messages of a run with this status and this text. There are none unless they are requested
abbrev pub AreMessagesFor : Option MessageOptions → List (List ℕ) → Status → List ℕ → List ℕ → Type 0
AreMessagesFor None sources status text messages = messages ≡ []
AreMessagesFor (Some m) sources status text messages = IsExplained m.format (map (λ n. n.items) m.names.items) sources status text messages

-- the status of a run on these sources with these options, what it writes, and its messages. `held` is what the run keeps of the sources
pub record IsOutput (options : RunOptions) (sources held : List (List ℕ)) (status : Status) (written messages : List ℕ) : Type 0 where
  pub text : List ℕ
  pub run : IsRun options.options.workers options.options.journal sources status text
  pub in_form : IsWrittenAs options.listed held status text written
  pub explained : AreMessagesFor options.messages held status text messages

-- the message of a run without a report, if the check of a module ran out of memory. There is none unless messages are requested
abbrev pub IsExhaustionFor : Option MessageOptions → List (List ℕ) → List ℕ → Type 0
IsExhaustionFor None sources message = ⊥
IsExhaustionFor (Some m) sources message = StatesExhaustion m.format (map (λ n. n.items) m.names.items) sources message
