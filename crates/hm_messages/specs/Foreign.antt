-- A fault that isn't one of these sources.
use Rattle.std.specs.Prelude.{◌≡◌, ◌<◌, ◌≤◌, ℕ, ⊤, List, [], ◌∷◌, length}
use Rattle.hm_graph.specs.declared.faults.PlanFault.{PlanFault}
use Rattle.hm_graph.specs.declared.faults.PlanFault.TheVariants.{TooMany, Duplicate, Missing, Cycle, Memory}
use Rattle.hm_run_sources.specs.Origins.{AreLocated}
use Rattle.hm_run_sources.specs.Refusals.{Refusal, lex, parse, plan}
use Rattle.hm_run_sources.specs.declared.located.Located.{Located}
use Rattle.hm_messages.specs.Missing.{SetImport, missing_imports}

-- a source has this number, counted from 1
abbrev pub HasSource : List (List ℕ) → ℕ → Type 0
HasSource sources n = (0 < n) × (n ≤ length sources)

-- a source has the fault's number, or the fault is one of the plan
abbrev pub IsNumbered : List (List ℕ) → Refusal → Type 0
IsNumbered sources (lex n fault) = HasSource sources n
IsNumbered sources (parse n fault) = HasSource sources n
IsNumbered sources (plan fault m i) = ⊤

-- the fault is none of a source: no source has its number, or it is one of the plan
abbrev pub IsOfNoSource : List (List ℕ) → Refusal → Type 0
IsOfNoSource sources (lex n fault) = ¬ HasSource sources n
IsOfNoSource sources (parse n fault) = ¬ HasSource sources n
IsOfNoSource sources (plan fault m i) = ⊤

-- no module has this number, counted from 0
abbrev pub HasNoModule : List (List ℕ) → ℕ → Type 0
HasNoModule sources m = (located : List Located) × AreLocated sources located × (length located ≤ m)

-- the first of these imports has another name, or there is none
abbrev pub IsNotFirst : List SetImport → List ℕ → Type 0
IsNotFirst [] name = ⊤
IsNotFirst (i ∷ is) name = ¬ (i.name ≡ name)

-- the first import that names no module has another name than this, or there is none
abbrev pub HasNoMissing : List (List ℕ) → List ℕ → Type 0
HasNoMissing sources name = (located : List Located) × AreLocated sources located × IsNotFirst (missing_imports located) name

-- the sources have no module that this fault of the plan is about, or no such import
abbrev pub IsForeignPlan : List (List ℕ) → PlanFault → List ℕ → Type 0
IsForeignPlan sources TooMany i = HasNoModule sources 4096
IsForeignPlan sources (Duplicate k) i = HasNoModule sources k
IsForeignPlan sources (Missing k j) i = HasNoMissing sources i
IsForeignPlan sources (Cycle k) i = HasNoModule sources k
IsForeignPlan sources Memory i = ⊥

-- the fault isn't one of these sources
abbrev pub IsForeign : List (List ℕ) → Refusal → Type 0
IsForeign sources (lex n fault) = ¬ HasSource sources n
IsForeign sources (parse n fault) = ¬ HasSource sources n
IsForeign sources (plan fault m i) = IsForeignPlan sources fault i
