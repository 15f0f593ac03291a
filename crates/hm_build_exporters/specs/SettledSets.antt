-- A settled set, as the code has it.
use Rattle.std.specs.Prelude.{◌≡◌, ℕ, ◌<◌, length}
use Rattle.hm_verdicts.specs.Sets.{IsLawfulSet, ModuleSet}
use Rattle.hm_verdicts.specs.Verdicts.{Status}
use Rattle.hm_build_reports.specs.Settling.{module_set, statuses_of}
use Rattle.hm_build_exporters.specs.declared.set.SettledSet.{SettledSet}

abbrev pub set_of : SettledSet → ModuleSet
set_of s = module_set s.modules.now s.plan.now

abbrev pub status_in : SettledSet → ℕ → Status
status_in s = statuses_of s.settled.now

-- the set is lawful, has a status for each module, and a module with this number
pub record IsComplete (s : SettledSet) (i : ℕ) : Type 0 where
  pub lawful : IsLawfulSet (set_of s)
  pub len : length s.settled.now ≡ length s.modules.now
  pub number : i < length s.modules.now
