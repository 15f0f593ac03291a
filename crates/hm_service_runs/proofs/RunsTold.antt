-- The diagnostics of a run with these options.
use Rattle.std.proofs.Common.{◌≡◌, ℕ, Bool, List, Option, map, subst, sym}
use Rattle.hm_build_messages.specs.Explained.{IsExplained}
use Rattle.hm_build_messages.specs.declared.options.MessageOptions.{MessageOptions}
use Rattle.hm_build_output.specs.JournalledRuns.{IsRun}
use Rattle.hm_build_output.specs.Outputs.{AreMessagesFor, IsOutput}
use Rattle.hm_build_output.specs.declared.options.RunOptions.{RunOptions}
use Rattle.hm_build_reports.specs.FinishedBuilds.{IsFinished}
use Rattle.hm_messages.specs.declared.heading.MessageFormat.{MessageFormat}
use Rattle.hm_run_sources.specs.declared.status.Status.{Status}
use Rattle.hm_service_messages.specs.Lines.{AreTold}
use Rattle.hm_service_messages.specs.declared.diagnostic.Told.{Told}
use Rattle.hm_service_runs.specs.Runs.{AreOptionsFor, IsRunTold}
use Rattle.hm_service_places.specs.Names.{names_of}
use Rattle.hm_store.specs.Builds.{Build}
use Rattle.hm_store.specs.declared.record.Record.{Record}

pub run_told : (workers : ℕ) (numbers : List ℕ) (sources : List (List ℕ)) (told : Told) (options : RunOptions) (status : Status) (written messages : List ℕ) → AreOptionsFor numbers workers options → IsOutput options sources sources status written messages
    → AreTold told messages → IsRunTold workers numbers sources told
run_told workers numbers sources told options status written messages o h are =
    let text = h.text in
    let one : IsExplained o.messages.format (map (λ s. s.items) o.messages.names.items) sources status text messages =
    subst (λ (x : Option MessageOptions). AreMessagesFor x sources status text messages) o.is h.explained in
    record {
      status = status;
      text = text;
      run = subst (λ (j : Bool). IsRun workers j sources status text) o.no_journal (subst (λ (w : ℕ). IsRun w options.options.journal sources status text) o.workers_are h.run);
      messages = messages;
      explained = subst (λ (p : MessageFormat). IsExplained p (names_of numbers) sources status text messages) o.format (subst (λ (ns : List (List ℕ)). IsExplained o.messages.format ns sources status text messages) o.names one);
      are = are;
    }

-- the finished build is one by as many workers as the options have
pub workers_of : (workers : ℕ) (numbers : List ℕ) (options : RunOptions) (sources : List (List ℕ)) (b : Build) (records : List Record) → AreOptionsFor numbers workers options → IsFinished sources workers b records → IsFinished sources options.options.workers b records
workers_of workers numbers options sources b records o f = subst (λ (w : ℕ). IsFinished sources w b records) (sym o.workers_are) f
