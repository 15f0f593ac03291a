-- Worked examples of import closures.
use Rattle.std.specs.Prelude.{[], ◌∷◌}
use Rattle.hm_verdicts.specs.Sets.{ModuleSet}
use Rattle.hm_verdicts.specs.Worked.{module_B, module_C, three_modules}
use Rattle.hm_verdicts_closures.specs.Closures.{HasSameClosure}

-- C imports B
abbrev pub two_modules : ModuleSet
two_modules = record { modules = module_C ∷ module_B ∷ []; plan = (1 ∷ []) ∷ [] ∷ [] }

-- C alone, without what it imports
abbrev pub one_module : ModuleSet
one_module = record { modules = module_C ∷ []; plan = [] ∷ [] }

-- C has the same closure beside A and without it. It hasn't where B isn't there, and B isn't A
pub record ClosuresRow : Type 0 where
  pub without : HasSameClosure three_modules two_modules 2 0
  pub alone : ¬ (HasSameClosure three_modules one_module 2 0)
  pub other : ¬ (HasSameClosure three_modules two_modules 0 1)
