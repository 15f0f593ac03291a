-- The result of a finished build, as settlements of its set.
use Rattle.std.specs.Prelude.{ℕ, Option, Some, None}
use Rattle.hm_verdicts.specs.ModuleVerdicts.{Verdict, Good, Faulty}
use Rattle.hm_verdicts.specs.Verdicts.{Status as Settlement, Published, Failed, Skipped, IsSettled}
use Rattle.hm_verdicts.specs.Outcomes.{Checked}
use Rattle.hm_store.specs.Builds.{Build, IsLegal, IsAllSettled, kept_at, set_of}

abbrev pub settlement_by : Verdict → Settlement
settlement_by (Good f) = Published f
settlement_by (Faulty found) = Failed found

abbrev pub settlement_with : Option Checked → Settlement
settlement_with (Some c) = settlement_by c.verdict
settlement_with None = Skipped

-- how module number m is settled: by its outcome, or skipped if it has none
abbrev pub settlement : Build → ℕ → Settlement
settlement b m = settlement_with (kept_at b.kept m)

-- law: if all modules of a legal build are settled, they are settled by the published interfaces of their imports, and each skipped module has an
-- import that isn't published
abbrev pub SettledBuildIsSettled : Type 0
SettledBuildIsSettled = (b : Build) → IsLegal b → IsAllSettled b → IsSettled (set_of b) (settlement b)
