-- Worked examples: the module at a line, and a source without modules.
use Rattle.std.specs.Prelude.{◌≡◌, ℕ, List, [], ◌∷◌, Option, None, codes}
use Rattle.hm_build_places.specs.Known.{Known}
use Rattle.hm_names.specs.Worked.{a_module, module_of}
use Rattle.hm_scope_typed_names.specs.declared.typed.TypedName.{TypedName}
use Rattle.hm_service_completions.specs.Completions.{AreCompletionsAt, HasNoModule, IsModuleAt}
use Rattle.hm_verdicts.specs.Verdicts.{Skipped}

-- two modules on the first line of source 4
abbrev pub two_modules : Known
two_modules = record { set = record { modules = a_module [] ∷ module_of (codes "B") None [] [] ∷ []; plan = [] ∷ [] ∷ [] }; status = λ i. Skipped; files = []; texts = []; origins = 0 ∷ 0 ∷ [] }

-- the second one is at the first line of its source, and none is before that line or in another source
pub record ModuleRow : Type 0 where
  pub second : IsModuleAt two_modules (4 ∷ []) 4 1 1
  pub not_first : ¬ (IsModuleAt two_modules (4 ∷ []) 4 1 0)
  pub before : HasNoModule two_modules (4 ∷ []) 4 0
  pub elsewhere : HasNoModule two_modules (4 ∷ []) 5 1

-- a place before the first module has no completions
pub record NoModuleRow : Type 0 where
  pub none : AreCompletionsAt two_modules (4 ∷ []) 4 0 [] []
  pub not_one : (n : TypedName) → ¬ (AreCompletionsAt two_modules (4 ∷ []) 4 0 [] (n ∷ []))
