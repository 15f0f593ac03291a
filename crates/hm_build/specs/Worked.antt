-- Worked examples of runs and builds.
use Rattle.std.specs.Prelude.{◌≡◌, ℕ, Bool, false, None, List, [], ◌∷◌, length, sum_by, codes}
use Rattle.hm_verdicts.specs.Sets.{ModuleSet}
use Rattle.hm_verdicts.specs.Verdicts.{IsGoodIn}
use Rattle.hm_verdicts.specs.Worked.{three_modules}
use Rattle.hm_store.specs.Builds.{Build, IsAllSettled, IsLegal, set_of}
use Rattle.hm_store.specs.declared.object.Entry.{Entry}
use Rattle.hm_store.specs.declared.object.Entry.TheVariants.{Claim, Publish, Fail, Stop}
use Rattle.hm_build.specs.Headline.{HasVerdicts}
use Rattle.hm_build_output.specs.JournalledRuns.{IsRun}
use Rattle.hm_build_output.specs.Outputs.{IsOutput}
use Rattle.hm_build_output.specs.declared.options.RunOptions.{RunOptions}
use Rattle.hm_build_reports.specs.Journals.{MayEnd, entry_line, journal_text}
use Rattle.hm_build_stages.specs.Rooms.{room_of}
use Rattle.hm_run_sources.specs.declared.status.Status.TheVariants.{Good, Faulty, Refused}
use Rattle.hm_run_sources.specs.declared.trees.Trees.TheVariants.{Left}

-- The worked set: A is good, B is faulty, C imports B

-- one worker claims and publishes A, then claims and fails B
abbrev pub one_worker : List Entry
one_worker = Claim 0 0 ∷ Publish 0 0 ∷ Claim 0 1 ∷ Fail 0 1 ∷ []

-- a build of the worked set with this journal
pub record IsOneWorkers (b : Build) : Type 0 where
  pub set : set_of b ≡ three_modules
  pub entries : b.journal ≡ one_worker

-- the text of that journal, which is not that of a build without workers
pub record JournalRow : Type 0 where
  pub text : (b : Build) → IsOneWorkers b → journal_text b ≡ codes "claim 0 A\npublish 0 A 0\nclaim 0 B\nfail 0 B\n"
  pub stop : (p : ModuleSet) (n : ℕ) → entry_line p n (Stop 2) ≡ codes "stop 2\n"
  pub numbers : (sources : List (List ℕ)) (b : Build) → IsOneWorkers b → ¬ (MayEnd sources 0 b)

-- a legal and settled build with this journal exists, and has its verdicts: A is good in its set, B and C aren't
pub record VerdictsRow : Type 0 where
  pub build : Build
  pub is : IsOneWorkers build
  pub legal : IsLegal build
  pub settled : IsAllSettled build
  pub verdicts : HasVerdicts build
  pub good : IsGoodIn three_modules 0
  pub faulty : ¬ (IsGoodIn three_modules 1)
  pub skipped : ¬ (IsGoodIn three_modules 2)

-- No sources

abbrev pub nothing : Build
nothing = record { modules = []; given = record { imports = []; dependents = [] }; journal = []; kept = [] }

abbrev pub no_text : List ℕ
no_text = codes "0 modules: 0 good, 0 faulty, 0 skipped\n"

-- a run without sources may end with an empty journal. With or without the journal its text is this, and its status is that all is good
pub record NothingRow : Type 0 where
  pub may_end : MayEnd [] 1 nothing
  pub good : (journal : Bool) → IsRun 4 journal [] Good no_text
  pub not_faulty : (journal : Bool) (text : List ℕ) → ¬ (IsRun 4 journal [] Faulty text)
  pub not_refused : (journal : Bool) (text : List ℕ) → ¬ (IsRun 4 journal [] Refused text)

-- four workers, no journal, no messages, and the report as text
abbrev pub plain : RunOptions
plain = record { options = record { workers = 4; journal = false; trees = Left }; messages = None; listed = None }

-- what such a run writes of no sources. It has no message, not even an empty line
pub record OutputRow : Type 0 where
  pub written : IsOutput plain [] [] Good no_text []
  pub not_a_line : ¬ (IsOutput plain [] [] Good no_text (10 ∷ []))

-- Room

-- the room for two modules of which one imports the other, and for the longest chain of modules that a set may have
pub record RoomRow : Type 0 where
  pub two : room_of ((1 ∷ []) ∷ [] ∷ []) ≡ 7
  pub chain : (imports : List (List ℕ)) → length imports ≡ 4096 → sum_by length imports ≡ 4095 → room_of imports ≡ 12289
