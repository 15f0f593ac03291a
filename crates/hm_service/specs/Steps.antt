-- The steps of a check. No public clause names these.
use Rattle.std.specs.Prelude.{⊤}
use Rattle.hm_run_sources.specs.Refusals.{Refusal, lex, parse, plan}

-- the plan of a set has the fault, and no source
abbrev pub IsOfPlan : Refusal → Type 0
IsOfPlan (lex n fault) = ⊥
IsOfPlan (parse n fault) = ⊥
IsOfPlan (plan fault m i) = ⊤
