-- Worked examples: what another module exports, and the import of it.
use Rattle.std.specs.Prelude.{◌≡◌, ℕ, [], ◌∷◌, codes}
use Rattle.hm_lex.specs.declared.token.Place.{Place}
use Rattle.hm_types.specs.declared.entries.TypeEntry.{TypeEntry}
use Rattle.hm_types.specs.declared.entries.ValueEntry.{ValueEntry}
use Rattle.hm_types.specs.Interfaces.{Exports as Interface}
use Rattle.hm_types.specs.Monotypes.{var}
use Rattle.hm_types.specs.Types.{Var}
use Rattle.hm_syntax.specs.Trees.{data_declaration, data_constructor, more_constructors, no_constructors, no_types}
use Rattle.hm_syntax.specs.declared.ast.Module.{Module}
use Rattle.hm_names.specs.Entities.{named}
use Rattle.hm_names.specs.Worked.{at, a_module}
use Rattle.hm_names.specs.declared.namespace.Namespace.TheVariants.{Constructors, Types, Values}
use Rattle.hm_messages_exporters.specs.Changes.{import_text, insertion}
use Rattle.hm_messages_exporters.specs.Declarations.{IsDeclaredAt}
use Rattle.hm_messages_exporters.specs.Exported.{IsExported, IsItem}

abbrev pub area : ValueEntry
area = record { name = codes "area"; entity = named (codes "A") (codes "area"); scheme = record { vars = 1; body = Var (var 0) } }

abbrev pub shape : TypeEntry
shape = record { name = codes "Shape"; entity = named (codes "A") (codes "Shape"); arity = 0 }

-- the interface of A, which exports the type Shape without its constructor, and the variable area
abbrev pub interface_A : Interface
interface_A = record { name = codes "A"; types = shape ∷ []; synonyms = []; constructors = []; values = area ∷ [] }

-- module A where { data Shape = Circle }
abbrev pub declared : Module
declared = a_module (data_declaration (at 23 (codes "Shape")) [] (more_constructors (data_constructor (at 31 (codes "Circle")) no_types) no_constructors) ∷ [])

abbrev pub in_column : ℕ → Place
in_column c = record { line = 1; column = c }

-- area and Shape are exported, and Circle, which is declared, isn't. An import lists area alone. It is put in after a brace
pub record ExportersRow : Type 0 where
  pub exported : IsExported interface_A Values (codes "area")
  pub a_type : IsExported interface_A Types (codes "Shape")
  pub hidden : ¬ (IsExported interface_A Constructors (codes "Circle"))
  pub declares : IsDeclaredAt declared Constructors (codes "Circle") (in_column 31)
  pub listed : IsItem interface_A (codes "area") Values (codes " (area)")
  pub everything : IsItem interface_A (codes "area") Values []
  pub text : import_text (codes "A") (codes " (area)") ≡ codes " import A (area) ;"
  pub put : (insertion (in_column 16) (codes " import A ;")).start ≡ in_column 17
