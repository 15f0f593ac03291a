-- Worked examples of bare names of types.
use Rattle.std.specs.Prelude.{ℕ, false, List, [], ◌∷◌, None, codes}
use Rattle.hm_types.specs.Interfaces.{Exports as Interface}
use Rattle.hm_syntax.specs.Names.{Identifier}
use Rattle.hm_syntax.specs.Trees.{Declaration, data_declaration, data_constructor, more_constructors, no_constructors, no_types}
use Rattle.hm_syntax.specs.declared.ast.Module.{Module}
use Rattle.hm_syntax.specs.declared.ast.Import.{Import}
use Rattle.hm_syntax.specs.declared.ast.ImportList.TheVariants as list
use Rattle.hm_messages_types.specs.Shown.{NamedType}
use Rattle.hm_messages_type_names.specs.TypeNames.{IsBareName}

abbrev pub at : ℕ → List ℕ → Identifier
at column x = record { qualifier = None; text = x; line = 1; column = column }

-- import Prelude ()
abbrev pub no_prelude : Import
no_prelude = record { qualified = false; name = at 25 (codes "Prelude"); alias = None; list = list.Only [] }

abbrev pub declared : Declaration
declared = data_declaration (at 43 (codes "T")) [] (more_constructors (data_constructor (at 47 (codes "C")) no_types) no_constructors)

-- module M where { import Prelude () ; data T = C }
abbrev pub module_M : Module
module_M = record { header = record { name = at 8 (codes "M"); exports = None; imports = no_prelude ∷ [] }; decls = declared ∷ [] }

abbrev pub bare_for : List ℕ → NamedType
bare_for text = record { name = codes "T"; text = text }

-- in M, T is the bare name of the type M.T, and not of a type N.T
pub record BareNameRow : Type 0 where
  pub own : (fs : List Interface) → IsBareName module_M fs (bare_for (codes "M.T"))
  pub other : (fs : List Interface) → ¬ (IsBareName module_M fs (bare_for (codes "N.T")))
