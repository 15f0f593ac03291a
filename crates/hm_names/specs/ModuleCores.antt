-- The model of a core.
use Rattle.std.specs.Prelude.{ℕ, List, refl}
use Rattle.std.specs.Coded.{Coded, code_by, coded×, coded_list}
use Rattle.hm_types.specs.declared.Entity.{Entity}
use Rattle.hm_types.specs.Interfaces.{Exports as Interface, coded_text, coded_entity, coded_exports}
use Rattle.hm_syntax.specs.Codes.{coded_declaration}
use Rattle.hm_syntax.specs.Trees.{Declaration}
use Rattle.hm_names.specs.declared.cores.Exported.{Exported}

-- a module's name, its resolved declarations, the interfaces for which it was made, and its exports in each namespace
pub record ModuleCore : Type 0 where
  pub name : List ℕ
  pub decls : List Declaration
  pub interfaces : List Interface
  pub exported_types : List Exported
  pub exported_constructors : List Exported
  pub exported_values : List Exported

-- the code of exports, with which a proof decides equality
abbrev pub coded_exported : Coded Exported
coded_exported = code_by (List ℕ × Entity) (coded× coded_text coded_entity) (λ e. (e.name, e.entity)) (λ p. record { name = p.0; entity = p.1 }) (λ _. refl)

abbrev pub coded_core : Coded ModuleCore
coded_core =
    code_by (List ℕ × (List Declaration × (List Interface × (List Exported × (List Exported × List Exported)))))
    (coded× coded_text (coded× (coded_list coded_declaration) (coded× (coded_list coded_exports) (coded× (coded_list coded_exported) (coded× (coded_list coded_exported) (coded_list coded_exported))))))
    (λ c. (c.name, (c.decls, (c.interfaces, (c.exported_types, (c.exported_constructors, c.exported_values))))))
    (λ p. record { name = p.0; decls = p.1.0; interfaces = p.1.1.0; exported_types = p.1.1.1.0; exported_constructors = p.1.1.1.1.0; exported_values = p.1.1.1.1.1 })
    (λ _. refl)
