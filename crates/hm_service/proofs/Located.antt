-- The headers of the modules of a refused set.
use Rattle.std.proofs.Common.{ℕ, ◌<◌, All, List, length}
use Rattle.hm_run_sources.specs.Origins.{AreHeadersFor, AreLocated}
use Rattle.hm_run_sources.specs.Refusals.{Refusal, lex, parse, plan}
use Rattle.hm_run_sources.specs.declared.located.Located.{Located}
use Rattle.hm_service.specs.Steps.{IsOfPlan}

-- if the plan has the fault, they are those of all modules
pub all_located : (sources : List (List ℕ)) (r : Refusal) (located : List Located) → IsOfPlan r → AreHeadersFor sources r located → AreLocated sources located
all_located sources (lex n fault) located of_plan h = absurd of_plan
all_located sources (parse n fault) located of_plan h = absurd of_plan
all_located sources (plan fault m i) located of_plan h = h

pub sources_within : (sources : List (List ℕ)) (located : List Located) → AreLocated sources located → All (λ l. l.source < length sources) located
sources_within sources located are i d below = (are.each i d below).inside
