-- Worked examples: the number of modules of each source, the source of a module, the headers of a refused set, and a module of sources.
use Rattle.std.specs.Prelude.{◌≡◌, ℕ, List, [], ◌∷◌}
use Rattle.hm_graph.specs.declared.faults.PlanFault.TheVariants.{Cycle}
use Rattle.hm_lex.specs.declared.token.LexFault.TheVariants.{TooLong}
use Rattle.hm_syntax.specs.declared.ast.Module.{Module}
use Rattle.hm_run_sources.specs.ModuleCounts.{AreCountedModules, IsCountedTo}
use Rattle.hm_run_sources.specs.Origins.{AreHeadersFor, IsModuleOf}
use Rattle.hm_run_sources.specs.Refusals.{lex, plan}
use Rattle.hm_run_sources.specs.SourceModules.{HasModules}
use Rattle.hm_run_sources.specs.declared.located.Located.{Located}
use Rattle.hm_run_sources.specs.declared.located.SourceModule.{SourceModule}

-- the first source spells two modules and the second one: the counts are 2 and 1, and not 1 and 2
pub record CountsRow : Type 0 where
  pub two_and_one : (s t : List ℕ) (a b c : Module) → HasModules s (a ∷ b ∷ []) → HasModules t (c ∷ []) → AreCountedModules (s ∷ t ∷ []) (a ∷ b ∷ c ∷ []) (2 ∷ 1 ∷ [])
  pub not_one_and_two : (s t : List ℕ) (a b c : Module) → HasModules s (a ∷ b ∷ []) → ¬ (AreCountedModules (s ∷ t ∷ []) (a ∷ b ∷ c ∷ []) (1 ∷ 2 ∷ []))

-- of sources with 2, 0 and 1 modules, module 2 is one of source 2, and not of source 1, which has none
pub record SourceRow : Type 0 where
  pub last : IsCountedTo (2 ∷ 0 ∷ 1 ∷ []) 2 2
  pub not_empty : ¬ (IsCountedTo (2 ∷ 0 ∷ 1 ∷ []) 2 1)

-- a module that imports itself is alone in its source. The headers of the refused set are its header, in source 0, and neither none nor one in source 1.
-- A set with a lexical fault has no headers
pub record HeadersRow : Type 0 where
  pub cycle : (s name : List ℕ) (a : Module) → HasModules s (a ∷ []) → AreHeadersFor (s ∷ []) (plan (Cycle 0) name []) (record { header = a.header; source = 0 } ∷ [])
  pub not_none : (s name : List ℕ) (a : Module) → HasModules s (a ∷ []) → ¬ (AreHeadersFor (s ∷ []) (plan (Cycle 0) name []) [])
  pub not_elsewhere : (s name : List ℕ) (l : Located) → ¬ (AreHeadersFor (s ∷ []) (plan (Cycle 0) name []) (record { header = l.header; source = 1 } ∷ []))
  pub lexical : (s : List ℕ) → AreHeadersFor (s ∷ []) (lex 1 TooLong) []
  pub not_lexical : (s : List ℕ) (l : Located) → ¬ (AreHeadersFor (s ∷ []) (lex 1 TooLong) (l ∷ []))

-- the only module of a source is number 0 of source 0. There is no module 1
pub record ModuleRow : Type 0 where
  pub only : (s : List ℕ) (a : Module) → HasModules s (a ∷ []) → IsModuleOf (s ∷ []) (record { number = 0; source = 0; name = a.header.name })
  pub not_second : (s : List ℕ) (a : Module) (m : SourceModule) → HasModules s (a ∷ []) → m.number ≡ 1 → ¬ (IsModuleOf (s ∷ []) m)
