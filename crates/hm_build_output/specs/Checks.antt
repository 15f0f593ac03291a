-- The text of a run of the checker: a function of the sources, except for the place of a syntax fault.
use Rattle.std.specs.Prelude.{ℕ, List}
use Rattle.hm_verdicts.specs.Reports.{IsAllGood, IsReported}
use Rattle.hm_verdicts.specs.Sets.{ModuleSet, IsLawfulSet}
use Rattle.hm_run_sources.specs.Runs.{IsRefused}
use Rattle.hm_run_sources.specs.SourceModules.{AreModulesOf}
use Rattle.hm_run_sources.specs.declared.status.Status.{Status}
use Rattle.hm_run_sources.specs.declared.status.Status.TheVariants.{Good, Faulty, Refused}

-- the sources spell a lawful set, and the text is the report of its verdicts
pub record IsChecked (sources : List (List ℕ)) (text : List ℕ) : Type 0 where
  pub set : ModuleSet
  pub read : AreModulesOf sources set.modules
  pub lawful : IsLawfulSet set
  pub reported : IsReported set text

-- all modules of the set are good
abbrev pub IsGoodCheck : (sources : List (List ℕ)) (text : List ℕ) → IsChecked sources text → Type 0
IsGoodCheck sources text c = IsAllGood c.set c.reported.verdicts

-- the status and the text of a run on these sources: all modules are good, some are faulty or skipped, or the sources are refused
abbrev pub IsCheckRun : List (List ℕ) → Status → List ℕ → Type 0
IsCheckRun sources Good text = (c : IsChecked sources text) × IsGoodCheck sources text c
IsCheckRun sources Faulty text = (c : IsChecked sources text) × ¬ (IsGoodCheck sources text c)
IsCheckRun sources Refused text = IsRefused sources text
