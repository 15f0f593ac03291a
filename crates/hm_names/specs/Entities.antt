-- Entities: those that a module declares, and those that interfaces export (Report 5.1, 5.2). An entity is a defining module, a name and a namespace.
use Rattle.std.specs.Prelude.{◌≡◌, ℕ, List, [], ◌∷◌, Contains}
use Rattle.hm_types.specs.declared.Entity.{Entity}
use Rattle.hm_types.specs.declared.entries.TypeEntry.{TypeEntry}
use Rattle.hm_types.specs.declared.entries.SynonymEntry.{SynonymEntry}
use Rattle.hm_types.specs.declared.entries.ConstructorEntry.{ConstructorEntry}
use Rattle.hm_types.specs.declared.entries.ValueEntry.{ValueEntry}
use Rattle.hm_types.specs.Interfaces.{Exports as Interface}
use Rattle.hm_syntax.specs.Names.{Identifier}
use Rattle.hm_syntax.specs.Trees.{DataConstructor, DataConstructors, no_constructors, more_constructors, data_constructor, TypeTree, Pattern, Patterns, RightSide, Declaration, data_declaration, newtype_declaration, synonym_declaration, clause, pattern_binding}
use Rattle.hm_syntax.specs.declared.ast.Module.{Module}
use Rattle.hm_names.specs.declared.namespace.Namespace.{Namespace}
use Rattle.hm_names.specs.declared.namespace.Namespace.TheVariants.{Types, Constructors, Values}
use Rattle.hm_names.specs.Variables.{pattern_variables}

-- f exports the entity e under the name x
pub data Exports (f : Interface) (x : List ℕ) (e : Entity) : Namespace → Type 0 where
  a_type : {r : TypeEntry} → Contains f.types r → r.name ≡ x → r.entity ≡ e → Exports f x e Types
  a_synonym : {r : SynonymEntry} → Contains f.synonyms r → r.name ≡ x → r.entity ≡ e → Exports f x e Types
  a_constructor : {r : ConstructorEntry} → Contains f.constructors r → r.name ≡ x → r.entity ≡ e → Exports f x e Constructors
  a_value : {r : ValueEntry} → Contains f.values r → r.name ≡ x → r.entity ≡ e → Exports f x e Values

-- f exports a type under the name t, and a constructor of it under the name c. A synonym has no constructors
pub record Belongs (f : Interface) (t c : List ℕ) : Type 0 where
  pub type : TypeEntry
  pub constructor : ConstructorEntry
  pub exports_type : Contains f.types type
  pub exports_constructor : Contains f.constructors constructor
  pub type_name : type.name ≡ t
  pub constructor_name : constructor.name ≡ c
  pub owner : constructor.owner ≡ type.entity

abbrev pub constructor_list : DataConstructors → List DataConstructor
constructor_list no_constructors = []
constructor_list (more_constructors c cs) = c ∷ constructor_list cs

abbrev pub constructor_name : DataConstructor → Identifier
constructor_name (data_constructor n ts) = n

-- the declaration declares the name x: of a type, of one of its constructors, or of a variable (Report 4.2, 4.4.3)
pub data DeclaredBy (x : List ℕ) : Declaration → Namespace → Type 0 where
  a_data_type : {n : Identifier} {ps : List Identifier} {cs : DataConstructors} → n.text ≡ x → DeclaredBy x (data_declaration n ps cs) Types
  a_newtype : {n : Identifier} {ps : List Identifier} {c : DataConstructor} → n.text ≡ x → DeclaredBy x (newtype_declaration n ps c) Types
  a_synonym : {n : Identifier} {ps : List Identifier} {t : TypeTree} → n.text ≡ x → DeclaredBy x (synonym_declaration n ps t) Types
  a_constructor : {n : Identifier} {ps : List Identifier} {cs : DataConstructors} {c : DataConstructor} →
      Contains (constructor_list cs) c → (constructor_name c).text ≡ x → DeclaredBy x (data_declaration n ps cs) Constructors
  a_newtype_constructor : {n : Identifier} {ps : List Identifier} {c : DataConstructor} → (constructor_name c).text ≡ x → DeclaredBy x (newtype_declaration n ps c) Constructors
  a_variable : {n : Identifier} {ps : Patterns} {r : RightSide} → n.text ≡ x → DeclaredBy x (clause n ps r) Values
  a_matched_variable : {line column : ℕ} {p : Pattern} {r : RightSide} {n : Identifier} →
      Contains (pattern_variables p) n → n.text ≡ x → DeclaredBy x (pattern_binding line column p r) Values

-- the module declares the name x at its top
pub record Declares (m : Module) (x : List ℕ) (s : Namespace) : Type 0 where
  pub declaration : Declaration
  pub stands : Contains m.decls declaration
  pub declares : DeclaredBy x declaration s

abbrev pub named : List ℕ → List ℕ → Entity
named m x = record { «module» = m; name = x }

-- the entity that the module declares under a name
abbrev pub own : Module → List ℕ → Entity
own m x = named m.header.name.text x
