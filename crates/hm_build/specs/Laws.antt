-- The laws of runs, as statements.
use Rattle.std.specs.Prelude.{◌≡◌, ℕ, List}
use Rattle.hm_verdicts.specs.Reports.{IsAllGood, IsReport}
use Rattle.hm_verdicts.specs.Sets.{ModuleSet, IsLawfulSet}
use Rattle.hm_verdicts.specs.Verdicts.{Status as Settlement, IsSettled}
use Rattle.hm_build_output.specs.Checks.{IsChecked, IsCheckRun}
use Rattle.hm_run_sources.specs.declared.status.Status.{Status}
use Rattle.hm_run_sources.specs.declared.status.Status.TheVariants.{Good, Faulty}
use Rattle.hm_run_sources.specs.Runs.{IsRefused}
use Rattle.hm_run_sources.specs.SourceModules.{AreModulesOf}

-- sources that are checked have one report
abbrev pub HasOneReport : Type 0
HasOneReport = (sources : List (List ℕ)) (text other : List ℕ) → IsChecked sources text → IsChecked sources other → text ≡ other

-- the same sources aren't both checked and refused
abbrev pub IsNotCheckedAndRefused : Type 0
IsNotCheckedAndRefused = (sources : List (List ℕ)) (text other : List ℕ) → IsChecked sources text → ¬ (IsRefused sources other)

-- sources have one status
abbrev pub HasOneStatus : Type 0
HasOneStatus = (sources : List (List ℕ)) (s t : Status) (text other : List ℕ) → IsCheckRun sources s text → IsCheckRun sources t other → s ≡ t

-- if the modules of the sources are a lawful set and settled in any order, a run writes their report, and the status says whether all are good
abbrev pub SettledSetIsRun : Type 0
SettledSetIsRun =
    (sources : List (List ℕ)) (p : ModuleSet) (settled : ℕ → Settlement) (text : List ℕ) → AreModulesOf sources p.modules → IsLawfulSet p → IsSettled p settled → IsReport p settled text →
    (IsAllGood p settled → IsCheckRun sources Good text) × (¬ (IsAllGood p settled) → IsCheckRun sources Faulty text)
