-- Why there is no plan, for the crate's own functions.
use Rattle.std.specs.Prelude.{ℕ, List}
use Rattle.hm_run_sources.specs.Origins.{AreHeadersFor}
use Rattle.hm_run_sources.specs.Refusals.{IsLasting}
use Rattle.hm_run_sources.specs.Runs.{IsSourceFault, FailsAtSource, IsRefusalOf}
use Rattle.hm_run_sources.specs.declared.plan_errors.PlanError.{PlanError}
use Rattle.hm_run_sources.specs.declared.plan_errors.PlanError.TheVariants as plans
use Rattle.hm_run_sources.specs.declared.sets.SetError.{SetError}
use Rattle.hm_run_sources.specs.declared.sets.SetError.TheVariants.{Refused, Memory}

abbrev pub IsSourceError : ℕ → List ℕ → SetError → Type 0
IsSourceError n source (Refused fault) = IsSourceFault n source fault × IsLasting fault
IsSourceError n source Memory = Unit {0}

abbrev pub IsSetError : List (List ℕ) → SetError → Type 0
IsSetError sources (Refused fault) = FailsAtSource sources fault × IsLasting fault
IsSetError sources Memory = Unit {0}

abbrev pub IsPlanError : List (List ℕ) → PlanError → Type 0
IsPlanError sources (plans.Refused r) = IsRefusalOf sources r.fault
IsPlanError sources plans.Memory = Unit {0}

-- the error of a refused set has the headers of its modules
abbrev pub HaveHeaders : List (List ℕ) → PlanError → Type 0
HaveHeaders sources (plans.Refused r) = AreHeadersFor sources r.fault r.located.items
HaveHeaders sources plans.Memory = Unit {0}
