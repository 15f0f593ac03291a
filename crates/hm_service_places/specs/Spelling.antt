-- The modules that texts spell.
use Rattle.std.specs.Prelude.{ℕ, List, Vec, map}
use Rattle.std.specs.declared.alloc.Global.{Global}
use Rattle.hm_build_stages.specs.declared.finished_build.Finished.{Finished}
use Rattle.hm_run_sources.specs.ModuleCounts.{AreCountedModules}
use Rattle.hm_syntax.specs.declared.ast.Module.{Module}

-- texts, modules in order of appearance, and the number of modules of each text
pub record Spelling : Type 0 where
  pub texts : List (List ℕ)
  pub modules : List Module
  pub counts : List ℕ

-- the modules are those that the texts spell
abbrev pub IsRight : Spelling → Type 0
IsRight s = AreCountedModules s.texts s.modules s.counts

-- these texts with the modules of a build
abbrev pub spelling_of : Vec (Vec ℕ Global) Global → Finished → Spelling
spelling_of texts build = record { texts = map (λ s. s.items) texts.items; modules = build.store.modules; counts = build.counts.items }
