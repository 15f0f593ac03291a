-- The laws of runs of the plan, as statements.
use Rattle.std.specs.Prelude.{◌≡◌, ℕ, List, ◌⊎◌, length}
use Rattle.hm_lex.specs.declared.token.Place.{Place}
use Rattle.hm_parse_grammar.specs.declared.fault.ParseFault.TheVariants.{Syntax}
use Rattle.hm_syntax.specs.declared.ast.Module.{Module}
use Rattle.hm_run_sources.specs.ModuleCounts.{AreCountedModules, AreOrigins, IsCountedTo}
use Rattle.hm_run_sources.specs.Origins.{HaveOrigins, IsSpelledBy}
use Rattle.hm_run_sources.specs.declared.status.Status.{Status}
use Rattle.hm_run_sources.specs.Refusals.{Refusal, parse}
use Rattle.hm_run_sources.specs.Runs.{IsPlanned, IsPlanRun, IsRefusalOf}

-- sources with a plan have one text of it
abbrev pub HasOnePlanText : Type 0
HasOnePlanText = (sources : List (List ℕ)) (text other : List ℕ) → IsPlanned sources text → IsPlanned sources other → text ≡ other

-- sources have one status, and no plan if they are refused
abbrev pub HasOnePlanStatus : Type 0
HasOnePlanStatus = (sources : List (List ℕ)) (s t : Status) (text other : List ℕ) → IsPlanRun sources s text → IsPlanRun sources t other → s ≡ t

-- the same refusal, or two syntax faults of one source at any places
abbrev pub AreSameButPlace : Refusal → Refusal → Type 0
AreSameButPlace r s = (r ≡ s) ⊎ ((n : ℕ) × ((p : Place) × ((q : Place) × ((r ≡ parse n (Syntax p)) × (s ≡ parse n (Syntax q))))))

-- refused sources have one reason
abbrev pub HasOneRefusal : Type 0
HasOneRefusal = (sources : List (List ℕ)) (r s : Refusal) → IsRefusalOf sources r → IsRefusalOf sources s → AreSameButPlace r s

-- the source to which the counts give a module spells it
abbrev pub CountsGiveSources : Type 0
CountsGiveSources =
    (sources : List (List ℕ)) (modules : List Module) (counts : List ℕ) (m source : ℕ) → AreCountedModules sources modules counts → IsCountedTo counts m source → IsSpelledBy sources m source

-- so each module has its source
abbrev pub CountsGiveOrigins : Type 0
CountsGiveOrigins = (sources : List (List ℕ)) (modules : List Module) (counts origins : List ℕ) → AreCountedModules sources modules counts → AreOrigins counts origins → HaveOrigins sources (length modules) origins
