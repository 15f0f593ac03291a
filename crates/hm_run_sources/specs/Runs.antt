-- The text of a run of the plan. The sources determine it, except for the place of a syntax fault.
use Rattle.std.specs.Prelude.{◌≡◌, ℕ, ◌+◌, List, [], ◌∷◌, ◌++◌, length, map, ◌⊎◌}
use Rattle.hm_lex.specs.Faults.{AreTokensOf, IsRefusal}
use Rattle.hm_lex.specs.declared.token.Token.{Token}
use Rattle.hm_syntax.specs.declared.ast.Module.{Module}
use Rattle.hm_graph.specs.Outline.{Outline}
use Rattle.hm_run_sources.specs.Names.{import_at, module_outline}
use Rattle.hm_parse_grammar.specs.declared.fault.ParseFault.{ParseFault}
use Rattle.hm_parse_grammar.specs.declared.fault.ParseFault.TheVariants.{Syntax, Memory}
use Rattle.hm_parse_grammar.specs.Grammar.Modules.{Spells}
use Rattle.hm_graph.specs.declared.faults.PlanFault.{PlanFault}
use Rattle.hm_graph.specs.declared.faults.PlanFault.TheVariants.{Duplicate, Missing, Cycle}
use Rattle.hm_graph.specs.Imports.{IsImportPlan, IsLawful, name_at}
use Rattle.hm_graph.specs.Refusal.{IsRefusal as IsPlanRefusal}
use Rattle.hm_run_sources.specs.Refusals.{Refusal, lex, parse, plan, IsLasting, refusal_text}
use Rattle.hm_run_sources.specs.Plans.{IsPlanText}
use Rattle.hm_run_sources.specs.declared.status.Status.{Status}
use Rattle.hm_run_sources.specs.declared.status.Status.TheVariants.{Good, Faulty, Refused}

-- the outlines of the modules that a source spells
pub record HasOutlines (source : List ℕ) (outlines : List Outline) : Type 0 where
  pub tokens : List Token
  pub modules : List Module
  pub lexed : AreTokensOf source tokens
  pub parsed : Spells modules source tokens
  pub are : outlines ≡ map module_outline modules

-- the outlines of the modules of a set of sources, in order of appearance
abbrev pub AreOutlinesOf : List (List ℕ) → List Outline → Type 0
AreOutlinesOf [] outlines = outlines ≡ []
AreOutlinesOf (s ∷ ss) outlines = (first : List Outline) × (later : List Outline) × HasOutlines s first × AreOutlinesOf ss later × (outlines ≡ first ++ later)

-- a syntax fault: the tokens spell no modules. The place may be any
abbrev pub IsSyntaxFault : List ℕ → List Token → ParseFault → Type 0
IsSyntaxFault source tokens (Syntax place) = (modules : List Module) → Spells modules source tokens → ⊥
IsSyntaxFault source tokens Memory = Unit {0}

-- the fault of source number n
abbrev pub IsSourceFault : ℕ → List ℕ → Refusal → Type 0
IsSourceFault n source (lex m fault) = (m ≡ n) × IsRefusal source fault
IsSourceFault n source (parse m fault) = (m ≡ n) × ((tokens : List Token) × AreTokensOf source tokens × IsSyntaxFault source tokens fault)
IsSourceFault n source (plan fault m i) = ⊥

-- the names of the module and the import of a fault of the plan
abbrev pub AreNamesOf : List Outline → PlanFault → List ℕ → List ℕ → Type 0
AreNamesOf modules (Duplicate k) m i = (m ≡ name_at modules k) × (i ≡ [])
AreNamesOf modules (Missing k j) m i = (m ≡ name_at modules k) × (i ≡ import_at modules k j)
AreNamesOf modules (Cycle k) m i = (m ≡ name_at modules k) × (i ≡ [])
AreNamesOf modules _ m i = (m ≡ []) × (i ≡ [])

abbrev pub IsSetPlanFault : List Outline → Refusal → Type 0
IsSetPlanFault modules (plan fault m i) = IsPlanRefusal modules fault × AreNamesOf modules fault m i
IsSetPlanFault modules _ = ⊥

-- the fault of a source, if the sources before it have none
pub record FailsAtSource (sources : List (List ℕ)) (refusal : Refusal) : Type 0 where
  pub before : List (List ℕ)
  pub source : List ℕ
  pub after : List (List ℕ)
  pub whole : sources ≡ before ++ source ∷ after
  pub modules : List Outline
  pub read : AreOutlinesOf before modules
  pub fault : IsSourceFault (length before + 1) source refusal

-- the fault of the plan, if no source has a fault
pub record FailsAtPlan (sources : List (List ℕ)) (refusal : Refusal) : Type 0 where
  pub modules : List Outline
  pub read : AreOutlinesOf sources modules
  pub fault : IsSetPlanFault modules refusal

-- why the set is refused
pub record IsRefusalOf (sources : List (List ℕ)) (refusal : Refusal) : Type 0 where
  pub lasting : IsLasting refusal
  pub first : FailsAtSource sources refusal ⊎ FailsAtPlan sources refusal

pub record IsRefused (sources : List (List ℕ)) (text : List ℕ) : Type 0 where
  pub refusal : Refusal
  pub because : IsRefusalOf sources refusal
  pub says : text ≡ refusal_text refusal

pub record IsPlanned (sources : List (List ℕ)) (text : List ℕ) : Type 0 where
  pub modules : List Outline
  pub read : AreOutlinesOf sources modules
  pub rows : List (List ℕ)
  pub lawful : IsLawful modules
  pub planned : IsImportPlan modules rows
  pub says : IsPlanText modules rows text

-- the status and the text of a run of the plan on these sources
abbrev pub IsPlanRun : List (List ℕ) → Status → List ℕ → Type 0
IsPlanRun sources Good text = IsPlanned sources text
IsPlanRun sources Faulty text = ⊥
IsPlanRun sources Refused text = IsRefused sources text
