-- What is held of sources gives the check of the whole sources.
use Rattle.std.proofs.Common.{◌≡◌, ℕ, Bool, true, false, List, [], ◌∷◌, map, subst, sym}
use Rattle.std.specs.Prelude.{None}
use Rattle.hm_store.specs.Builds.{Build}
use Rattle.hm_syntax.specs.declared.ast.Module.{Module}
use Rattle.hm_build_output.specs.Checks.{IsChecked, IsCheckRun}
use Rattle.hm_build_output.specs.JournalledRuns.{Follows, IsRun, IsWritten}
use Rattle.hm_build_output.specs.Outputs.{IsOutput, IsWrittenAs}
use Rattle.hm_build_output.specs.declared.options.RunOptions.{RunOptions}
use Rattle.hm_build_reports.specs.Journals.{MayEnd}
use Rattle.hm_run_io.specs.Sources.{held_of}
use Rattle.hm_run_sources.specs.SourceModules.{AreModulesOf, HasModules}
use Rattle.hm_run_sources.specs.declared.status.Status.{Status}
use Rattle.hm_run_sources.specs.declared.status.Status.TheVariants.{Good, Faulty, Refused}
use Rattle.hm_run_sources.proofs.Telling.{refusal_held, tokens_held}

modules_held : (s : List ℕ) (modules : List Module) → HasModules (held_of s) modules → HasModules s modules
modules_held s modules h = subst (λ l. HasModules l modules) (tokens_held s h.tokens h.lexed) h

all_held : (ss : List (List ℕ)) (modules : List Module) → AreModulesOf (map held_of ss) modules → AreModulesOf ss modules
all_held [] modules h = h
all_held (s ∷ ss) modules h = (h.0, h.1, modules_held s h.0 h.2, all_held ss h.1 h.3, h.4)

checked_held : (ss : List (List ℕ)) (text : List ℕ) → IsChecked (map held_of ss) text → IsChecked ss text
checked_held ss text h = record { set = h.set; read = all_held ss h.set.modules h.read; lawful = h.lawful; reported = h.reported }

check_held : (ss : List (List ℕ)) (status : Status) (text : List ℕ) → IsCheckRun (map held_of ss) status text → IsCheckRun ss status text
unfolding checked_held
check_held ss Good text h = (checked_held ss text h.0, h.1)
check_held ss Faulty text h = (checked_held ss text h.0, h.1)
check_held ss Refused text h = record { refusal = h.refusal; because = refusal_held ss h.refusal h.because; says = h.says }

may_end_held : (ss : List (List ℕ)) (workers : ℕ) (b : Build) → MayEnd (map held_of ss) workers b → MayEnd ss workers b
may_end_held ss workers b h = record { read = all_held ss b.modules h.read; legal = h.legal; running = h.running; settled = h.settled; numbers = h.numbers }

follows_held : (journal : Bool) (workers : ℕ) (ss : List (List ℕ)) (report text : List ℕ) → Follows journal workers (map held_of ss) report text → Follows journal workers ss report text
follows_held false workers ss report text h = h
follows_held true workers ss report text h = (h.0, may_end_held ss workers h.0 h.1, h.2)

written_held : (journal : Bool) (workers : ℕ) (ss : List (List ℕ)) (status : Status) (report text : List ℕ) → IsWritten journal workers (map held_of ss) status report text → IsWritten journal workers ss status report text
written_held journal workers ss Good report text h = follows_held journal workers ss report text h
written_held journal workers ss Faulty report text h = follows_held journal workers ss report text h
written_held journal workers ss Refused report text h = h

pub build_held : (workers : ℕ) (journal : Bool) (ss : List (List ℕ)) (status : Status) (text : List ℕ) → IsRun workers journal (map held_of ss) status text → IsRun workers journal ss status text
build_held workers journal ss status text h = record { report = h.report; checked = check_held ss status h.report h.checked; written = written_held journal workers ss status h.report text h.written }

-- the output of a run on what is held of the sources is one of a run on the sources
pub output_held : (options : RunOptions) (ss : List (List ℕ)) (status : Status) (written messages : List ℕ) → IsOutput options (map held_of ss) (map held_of ss) status written messages → IsOutput options ss (map held_of ss) status written messages
output_held options ss status written messages h = record { text = h.text; run = build_held options.options.workers options.options.journal ss status h.text h.run; in_form = h.in_form; explained = h.explained }

-- what is written without names is the text of the run
pub written_run : (options : RunOptions) (sources held : List (List ℕ)) (status : Status) (written messages : List ℕ) → options.listed ≡ None → IsOutput options sources held status written messages → IsRun options.options.workers options.options.journal sources status written
written_run options sources held status written messages none h =
    let same : written ≡ h.text = subst (λ l. IsWrittenAs l held status h.text written) none h.in_form in
    subst (λ t. IsRun options.options.workers options.options.journal sources status t) (sym same) h.run
