-- The diagnostics of a run.
use Rattle.std.specs.Prelude.{◌≡◌, ℕ, false, List, Some, map, string_bytes}
use Rattle.hm_build_messages.specs.Explained.{IsExplained}
use Rattle.hm_build_messages.specs.declared.options.MessageOptions.{MessageOptions}
use Rattle.hm_build_output.specs.JournalledRuns.{IsRun}
use Rattle.hm_build_output.specs.declared.options.RunOptions.{RunOptions}
use Rattle.hm_messages.specs.declared.heading.MessageFormat.TheVariants.{Json}
use Rattle.hm_run_sources.specs.declared.status.Status.{Status}
use Rattle.hm_service_messages.specs.Lines.{AreTold}
use Rattle.hm_service_messages.specs.declared.diagnostic.Told.{Told}
use Rattle.hm_service_places.specs.Names.{names_of}

-- a run of these sources, which are named by these numbers, has these diagnostics as its messages
pub record IsRunTold (workers : ℕ) (numbers : List ℕ) (sources : List (List ℕ)) (told : Told) : Type 0 where
  pub status : Status
  pub text : List ℕ
  pub run : IsRun workers false sources status text
  pub messages : List ℕ
  pub explained : IsExplained Json (names_of numbers) sources status text messages
  pub are : AreTold told messages

-- the options of such a run. No public clause names these
pub record AreOptionsFor (numbers : List ℕ) (workers : ℕ) (options : RunOptions) : Type 0 where
  pub workers_are : options.options.workers ≡ workers
  pub no_journal : options.options.journal ≡ false
  pub messages : MessageOptions
  pub is : options.messages ≡ Some messages
  pub format : messages.format ≡ Json
  pub names : map (λ n. n.items) messages.names.items ≡ names_of numbers
