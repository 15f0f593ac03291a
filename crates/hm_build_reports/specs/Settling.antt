-- The table of a settled set.
use Rattle.std.specs.Prelude.{ℕ, List, map, slice_index_or}
use Rattle.std.specs.Arc.{arc_value}
use Rattle.std.specs.declared.alloc.Global.{Global}
use Rattle.std.specs.declared.sync.Arc.{Arc}
use Rattle.hm_syntax.specs.declared.ast.Module.{Module}
use Rattle.hm_verdicts.specs.Sets.{ModuleSet}
use Rattle.hm_verdicts.specs.Verdicts as verdicts
use Rattle.hm_build_reports.specs.declared.statuses.Settled.{Settled}
use Rattle.hm_build_reports.specs.declared.statuses.Settled.TheVariants.{Published, Failed, Skipped}

-- the set of these modules with this plan
abbrev pub module_set : List (Arc Module Global) → List (List ℕ) → ModuleSet
module_set modules plan = record { modules = map arc_value modules; plan = plan }

-- the model of a module's status
abbrev pub status_of : Settled → verdicts.Status
status_of (Published f) = verdicts.Published f.now
status_of (Failed found) = verdicts.Failed found.now
status_of Skipped = verdicts.Skipped

-- the statuses in the table of a settled set. A module past its end counts as skipped
abbrev pub statuses_of : List Settled → ℕ → verdicts.Status
statuses_of table i = status_of (slice_index_or table i Skipped)
