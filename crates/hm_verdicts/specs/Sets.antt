-- Sets of modules with their import plan. Modules have numbers (Report 5).
use Rattle.std.specs.Prelude.{ℕ, List, [], map, None, slice_index_or}
use Rattle.hm_syntax.specs.declared.ast.Module.{Module}
use Rattle.hm_graph.specs.Imports.{IsLawful, IsImportPlan}
use Rattle.hm_graph.specs.Outline.{Outline, outline}

-- the modules in order of appearance, and for each the numbers of the modules that it imports without Prelude, in order of first import
pub record ModuleSet : Type 0 where
  pub modules : List Module
  pub plan : List (List ℕ)

abbrev pub no_module : Module
no_module = record { header = record { name = record { qualifier = None; text = []; line = 0; column = 0 }; exports = None; imports = [] }; decls = [] }

abbrev pub module_at : ModuleSet → ℕ → Module
module_at p i = slice_index_or p.modules i no_module

abbrev pub imports_of : ModuleSet → ℕ → List ℕ
imports_of p i = slice_index_or p.plan i []

abbrev pub outlines_of : List Module → List Outline
outlines_of ms = map (λ m. outline m.header) ms

-- the set is lawful, and the plan is its import plan
pub record IsLawfulSet (p : ModuleSet) : Type 0 where
  pub lawful : IsLawful (outlines_of p.modules)
  pub planned : IsImportPlan (outlines_of p.modules) p.plan
