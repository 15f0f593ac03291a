-- Some of the sources of a set, after others. No public clause of a run names these.
use Rattle.std.specs.Prelude.{ℕ, List, ◌++◌}
use Rattle.hm_syntax.specs.declared.ast.Module.{Module}
use Rattle.hm_run_sources.specs.Errors.{IsSetError}
use Rattle.hm_run_sources.specs.ModuleCounts.{AreCountedModules}
use Rattle.hm_run_sources.specs.declared.sets.SetError.{SetError}

-- after the modules of the sources before and their numbers, these make those of all sources up to here
abbrev pub Follow : List (List ℕ) → List (List ℕ) → List Module → List ℕ → Type 0
Follow before through modules counts = (earlier : List Module) (numbers : List ℕ) → AreCountedModules before earlier numbers → AreCountedModules through (earlier ++ modules) (numbers ++ counts)

-- why there is no plan, if the sources before spell modules
abbrev pub FailsBehind : List (List ℕ) → List (List ℕ) → SetError → Type 0
FailsBehind sources before e = (earlier : List Module) (numbers : List ℕ) → AreCountedModules before earlier numbers → IsSetError sources e
