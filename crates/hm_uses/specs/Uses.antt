-- The uses of names in a module, each with its meaning (Report 4.4.3, 5.2, 5.3, 5.5.2).
use Rattle.std.specs.Prelude.{◌≡◌, ℕ, Bool, true, false, List, ◌∷◌, map, None, Some, ◌⊎◌, All, Contains}
use Rattle.hm_types.specs.declared.Entity.{Entity}
use Rattle.hm_types.specs.Interfaces.{Exports as Interface}
use Rattle.hm_syntax.specs.Names.{Identifier}
use Rattle.hm_syntax.specs.Trees.{variable_type, constructor_type, TypeTrees, TypeTree, data_constructor, DataConstructor, DataConstructors, variable_pattern, bound_pattern, constructor_pattern, Pattern, Patterns, variable_expression, constructor_expression, RightSide, data_declaration, newtype_declaration, synonym_declaration, signature, clause}
use Rattle.hm_syntax.specs.declared.ast.Module.{Module}
use Rattle.hm_syntax.specs.declared.ast.Export.{Export}
use Rattle.hm_syntax.specs.declared.ast.Export.TheVariants as export
use Rattle.hm_syntax.specs.declared.ast.Import.{Import}
use Rattle.hm_syntax.specs.declared.ast.ImportItem.{ImportItem}
use Rattle.hm_syntax.specs.declared.ast.ImportItem.TheVariants as item
use Rattle.hm_syntax.specs.declared.ast.ImportList.TheVariants as list
use Rattle.hm_syntax.specs.declared.ast.SubItems.{SubItems}
use Rattle.hm_syntax.specs.declared.ast.SubItems.TheVariants as subs
use Rattle.hm_names.specs.declared.namespace.Namespace.{Namespace}
use Rattle.hm_names.specs.declared.namespace.Namespace.TheVariants.{Types, Constructors, Values}
use Rattle.hm_names.specs.Entities.{Exports, Declares, own}
use Rattle.hm_names.specs.Exports.{HasConstructor, IsModuleName}
use Rattle.hm_names.specs.Scope.{IsUnbound, IsAmbiguous, Means}
use Rattle.hm_names.specs.Special.{IsSpecial}
use Rattle.hm_names.specs.Variables.{texts}
use Rattle.hm_uses.specs.declared.name_kind.NameKind.{NameKind}
use Rattle.hm_uses.specs.declared.name_kind.NameKind.TheVariants.{Variable, Constructor, TypeVariable, TypeConstructor, ModuleName}
use Rattle.hm_uses.specs.Mentions.{Mention, names_of}
use Rattle.hm_uses.specs.Scopes.{Around, Home, at_top, local_to, In, a_type, a_constructor, a_pattern, an_expression, a_declaration}

-- what a name means: the local variable or the type variable that is bound at a place, an entity, a module, the prefix of qualified names that a
-- module or an alias gives, nothing, or two or more entities
pub data Sense : Type 0 where
  local_variable : ℕ → ℕ → Sense
  type_variable : ℕ → ℕ → Sense
  an_entity : Entity → Sense
  a_module : List ℕ → Sense
  a_prefix : List ℕ → Sense
  unbound : Sense
  ambiguous : Sense

-- a name that is written, with what it means there
pub record UseOf : Type 0 where
  pub mention : Mention
  pub sense : Sense

-- b is the first of these binders with the name x
pub data IsFirst (x : List ℕ) (b : Identifier) : List Identifier → Type 0 where
  here : {bs : List Identifier} → b.text ≡ x → IsFirst x b (b ∷ bs)
  further : {c : Identifier} {bs : List Identifier} → ¬ (c.text ≡ x) → IsFirst x b bs → IsFirst x b (c ∷ bs)

abbrev pub IsBoundIn : List ℕ → List Identifier → Type 0
IsBoundIn x bs = Contains (texts bs) x

-- the meaning of a name by the scope of the module (5.5.2)
pub data ByScope (m : Module) (fs : List Interface) (s : Namespace) (n : Identifier) : Sense → Type 0 where
  no_entity : IsUnbound m fs s n → ByScope m fs s n unbound
  several : IsAmbiguous m fs s n → ByScope m fs s n ambiguous
  one : {e : Entity} → Means m fs s n e → ByScope m fs s n (an_entity e)

-- the meaning of a variable in an expression: a bare name means its innermost binding around, and each other name is looked up in the scope
pub data OfVariable (m : Module) (fs : List Interface) (xs : Around) (n : Identifier) : Sense → Type 0 where
  innermost : {b : Identifier} → n.qualifier ≡ None → IsFirst n.text b xs → OfVariable m fs xs n (local_variable b.line b.column)
  global : {t : Sense} → ¬ ((n.qualifier ≡ None) × IsBoundIn n.text xs) → ByScope m fs Values n t → OfVariable m fs xs n t

-- the meaning of a variable where its list binds or signs it: the one of this very list, or none
pub data OfBinder (m : Module) (x : List ℕ) : Home → Sense → Type 0 where
  own_variable : Declares m x Values → OfBinder m x at_top (an_entity (own m x))
  no_variable : ¬ (Declares m x Values) → OfBinder m x at_top unbound
  local : {b : Identifier} {bs : List Identifier} → IsFirst x b bs → OfBinder m x (local_to bs) (local_variable b.line b.column)
  no_local : {bs : List Identifier} → ¬ (IsBoundIn x bs) → OfBinder m x (local_to bs) unbound

-- the meaning of a type variable: its binder
pub data OfTypeVariable (x : List ℕ) (vs : List Identifier) : Sense → Type 0 where
  parameter : {b : Identifier} → IsFirst x b vs → OfTypeVariable x vs (type_variable b.line b.column)
  no_parameter : ¬ (IsBoundIn x vs) → OfTypeVariable x vs unbound

-- the meaning of a name in the list of an import: what the imported module exports under it. This module's own names don't count (5.3.1)
pub data OfItem (fs : List Interface) (i : Import) (s : Namespace) (x : List ℕ) : Sense → Type 0 where
  exported : {f : Interface} {e : Entity} → Contains fs f → f.name ≡ i.name.text → Exports f x e s → OfItem fs i s x (an_entity e)
  not_exported : ((f : Interface) (e : Entity) → Contains fs f → f.name ≡ i.name.text → ¬ (Exports f x e s)) → OfItem fs i s x unbound

-- f exports a type under the name t, and the constructor e of it under the name c
pub record Owns (f : Interface) (t c : List ℕ) (e : Entity) : Type 0 where
  pub type : Rattle.hm_types.specs.declared.entries.TypeEntry.TypeEntry
  pub constructor : Rattle.hm_types.specs.declared.entries.ConstructorEntry.ConstructorEntry
  pub exports_type : Contains f.types type
  pub exports_constructor : Contains f.constructors constructor
  pub type_name : type.name ≡ t
  pub constructor_name : constructor.name ≡ c
  pub owner : constructor.owner ≡ type.entity
  pub is : constructor.entity ≡ e

-- the meaning of c in the item T(c) of an import list: a constructor of that type
pub data OfSubItem (fs : List Interface) (i : Import) (t c : List ℕ) : Sense → Type 0 where
  exported : {f : Interface} {e : Entity} → Contains fs f → f.name ≡ i.name.text → Owns f t c e → OfSubItem fs i t c (an_entity e)
  not_exported : ((f : Interface) (e : Entity) → Contains fs f → f.name ≡ i.name.text → ¬ (Owns f t c e)) → OfSubItem fs i t c unbound

-- the meaning of c in the item T(c) of an export list: a constructor of the type that T means, in scope under the name c, bare or qualified (5.2)
pub data OfExported (m : Module) (fs : List Interface) (n c : Identifier) : Sense → Type 0 where
  constructor_of : {t e : Entity} → Means m fs Types n t → HasConstructor m fs t c.text e → OfExported m fs n c (an_entity e)
  no_constructor : ((t e : Entity) → Means m fs Types n t → ¬ (HasConstructor m fs t c.text e)) → OfExported m fs n c unbound

-- a list of an import, with the item
pub data HasItem (i : Import) (j : ImportItem) : Type 0 where
  listed : {is : List ImportItem} → i.list ≡ list.Only is → Contains is j → HasItem i j
  hidden : {is : List ImportItem} → i.list ≡ list.Hiding is → Contains is j → HasItem i j

abbrev pub HasExport : Module → Export → Type 0
HasExport m i = (is : List Export) × ((m.header.exports ≡ Some is) × Contains is i)

-- a name of this kind is written in the declarations of the module, binding or not, and means this there
pub data InDeclarations (m : Module) (fs : List Interface) (n : Identifier) : NameKind → Bool → Sense → Type 0 where
  -- expressions
  variable : {xs : Around} {t : Sense} → In m xs (an_expression (variable_expression n)) → OfVariable m fs xs n t → InDeclarations m fs n Variable false t
  constructor : {xs : Around} {t : Sense} → In m xs (an_expression (constructor_expression n)) → ¬ (IsSpecial n) → ByScope m fs Constructors n t → InDeclarations m fs n Constructor false t
  -- patterns
  bound_variable : {xs : Around} {h : Home} {t : Sense} → In m xs (a_pattern h (variable_pattern n)) → OfBinder m n.text h t → InDeclarations m fs n Variable true t
  as_variable : {xs : Around} {h : Home} {p : Pattern} {t : Sense} → In m xs (a_pattern h (bound_pattern n p)) → OfBinder m n.text h t → InDeclarations m fs n Variable true t
  matched_constructor : {xs : Around} {h : Home} {ps : Patterns} {t : Sense} → In m xs (a_pattern h (constructor_pattern n ps)) → ¬ (IsSpecial n) → ByScope m fs Constructors n t → InDeclarations m fs n Constructor false t
  -- types
  in_type : {xs : Around} {vs : List Identifier} {t : Sense} → In m xs (a_type vs (variable_type n)) → OfTypeVariable n.text vs t → InDeclarations m fs n TypeVariable false t
  type_constructor : {xs : Around} {vs : List Identifier} {ts : TypeTrees} {t : Sense} → In m xs (a_type vs (constructor_type n ts)) → ByScope m fs Types n t → InDeclarations m fs n TypeConstructor false t
  -- declarations
  data_type : {xs : Around} {h : Home} {ps : List Identifier} {cs : DataConstructors} → In m xs (a_declaration h (data_declaration n ps cs)) → InDeclarations m fs n TypeConstructor true (an_entity (own m n.text))
  newtype : {xs : Around} {h : Home} {ps : List Identifier} {c : DataConstructor} → In m xs (a_declaration h (newtype_declaration n ps c)) → InDeclarations m fs n TypeConstructor true (an_entity (own m n.text))
  synonym : {xs : Around} {h : Home} {ps : List Identifier} {ty : TypeTree} → In m xs (a_declaration h (synonym_declaration n ps ty)) → InDeclarations m fs n TypeConstructor true (an_entity (own m n.text))
  data_parameter : {xs : Around} {h : Home} {k : Identifier} {ps : List Identifier} {cs : DataConstructors} {t : Sense} → In m xs (a_declaration h (data_declaration k ps cs)) → Contains ps n → OfTypeVariable n.text ps t → InDeclarations m fs n TypeVariable true t
  newtype_parameter : {xs : Around} {h : Home} {k : Identifier} {ps : List Identifier} {c : DataConstructor} {t : Sense} → In m xs (a_declaration h (newtype_declaration k ps c)) → Contains ps n → OfTypeVariable n.text ps t → InDeclarations m fs n TypeVariable true t
  synonym_parameter : {xs : Around} {h : Home} {k : Identifier} {ps : List Identifier} {ty : TypeTree} {t : Sense} → In m xs (a_declaration h (synonym_declaration k ps ty)) → Contains ps n → OfTypeVariable n.text ps t → InDeclarations m fs n TypeVariable true t
  declared_constructor : {xs : Around} {vs : List Identifier} {ts : TypeTrees} → In m xs (a_constructor vs (data_constructor n ts)) → InDeclarations m fs n Constructor true (an_entity (own m n.text))
  signed : {xs : Around} {h : Home} {ns : List Identifier} {ty : TypeTree} {t : Sense} → In m xs (a_declaration h (signature ns ty)) → Contains ns n → OfBinder m n.text h t → InDeclarations m fs n Variable false t
  defined : {xs : Around} {h : Home} {ps : Patterns} {r : RightSide} {t : Sense} → In m xs (a_declaration h (clause n ps r)) → OfBinder m n.text h t → InDeclarations m fs n Variable true t

-- the same in the header: in its name, its export list and its imports
pub data InHeader (m : Module) (fs : List Interface) (n : Identifier) : NameKind → Bool → Sense → Type 0 where
  this_module : m.header.name ≡ n → InHeader m fs n ModuleName true (a_module n.text)
  exported_variable : {t : Sense} → HasExport m (export.Var n) → ByScope m fs Values n t → InHeader m fs n Variable false t
  exported_type : {s : SubItems} {t : Sense} → HasExport m (export.Con n s) → ByScope m fs Types n t → InHeader m fs n TypeConstructor false t
  exported_constructor : {k : Identifier} {cs : List Identifier} {t : Sense} → HasExport m (export.Con k (subs.Some cs)) → Contains cs n → OfExported m fs k n t → InHeader m fs n Constructor false t
  exported_prefix : HasExport m (export.Whole n) → IsModuleName m n.text → InHeader m fs n ModuleName false (a_prefix n.text)
  no_prefix : HasExport m (export.Whole n) → ¬ (IsModuleName m n.text) → InHeader m fs n ModuleName false unbound
  imported_module : {i : Import} → Contains m.header.imports i → i.name ≡ n → InHeader m fs n ModuleName false (a_module n.text)
  alias : {i : Import} → Contains m.header.imports i → i.alias ≡ Some n → InHeader m fs n ModuleName true (a_prefix n.text)
  listed_variable : {i : Import} {t : Sense} → Contains m.header.imports i → HasItem i (item.Var n) → OfItem fs i Values n.text t → InHeader m fs n Variable false t
  listed_type : {i : Import} {s : SubItems} {t : Sense} → Contains m.header.imports i → HasItem i (item.Con n s) → OfItem fs i Types n.text t → InHeader m fs n TypeConstructor false t
  listed_constructor : {i : Import} {k : Identifier} {cs : List Identifier} {t : Sense} → Contains m.header.imports i → HasItem i (item.Con k (subs.Some cs)) → Contains cs n → OfSubItem fs i k.text n.text t → InHeader m fs n Constructor false t
  hidden_constructor : {i : Import} {is : List ImportItem} {t : Sense} → Contains m.header.imports i → i.list ≡ list.Hiding is → Contains is (item.Con n subs.None) → OfItem fs i Constructors n.text t → InHeader m fs n Constructor false t

-- the name is written in the module, and means this there
abbrev pub Stands : Module → List Interface → Identifier → NameKind → Bool → Sense → Type 0
Stands m fs n k b t = InDeclarations m fs n k b t ⊎ InHeader m fs n k b t

-- the use is of a name that is written in the module and means this there
abbrev pub IsUse : Module → List Interface → UseOf → Type 0
IsUse m fs u = Stands m fs u.mention.name u.mention.kind u.mention.binds u.sense

-- exactly the names of the module, each once, in the order of its text, each with its meaning
pub record AreUses (m : Module) (fs : List Interface) (us : List UseOf) : Type 0 where
  pub exact : map (λ u. u.mention) us ≡ names_of m
  pub right : All (IsUse m fs) us
