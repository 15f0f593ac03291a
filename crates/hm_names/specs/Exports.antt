-- The exports of a module: a set of names with entities (Report 5.2).
use Rattle.std.specs.Prelude.{◌≡◌, ℕ, List, Option, None, Some, Contains}
use Rattle.hm_types.specs.declared.Entity.{Entity}
use Rattle.hm_types.specs.Interfaces.{Exports as Interface}
use Rattle.hm_syntax.specs.Names.{Identifier}
use Rattle.hm_syntax.specs.declared.ast.Module.{Module}
use Rattle.hm_syntax.specs.declared.ast.Import.{Import}
use Rattle.hm_syntax.specs.declared.ast.Export.{Export}
use Rattle.hm_syntax.specs.declared.ast.Export.TheVariants as export
use Rattle.hm_syntax.specs.declared.ast.SubItems.{SubItems}
use Rattle.hm_syntax.specs.declared.ast.SubItems.TheVariants as subs
use Rattle.hm_names.specs.declared.namespace.Namespace.{Namespace}
use Rattle.hm_names.specs.declared.namespace.Namespace.TheVariants.{Types, Constructors, Values}
use Rattle.hm_names.specs.Entities.{Declares, own}
use Rattle.hm_names.specs.Described.{ConstructorDescription, constructor_meant}
use Rattle.hm_names.specs.Scope.{Imports, known_as, InScope, Means}

-- the entity k is a constructor of the type t
abbrev pub IsConstructorOf : Module → List Interface → Entity → Entity → Type 0
IsConstructorOf m fs t k = (d : ConstructorDescription) × ((constructor_meant m.header.name.text m.decls fs k ≡ Some d) × (d.owner ≡ t))

-- the constructor k of t is in scope under the name c, bare or qualified
abbrev pub HasConstructor : Module → List Interface → Entity → List ℕ → Entity → Type 0
HasConstructor m fs t c k = IsConstructorOf m fs t k × ((q : Option (List ℕ)) × InScope m fs Constructors q c k)

-- a name in an export item `module x`: that of this module, or of an import
pub data IsModuleName (m : Module) (x : List ℕ) : Type 0 where
  this : m.header.name.text ≡ x → IsModuleName m x
  an_import : {i : Import} → Imports m i → known_as i ≡ x → IsModuleName m x

-- an item of an export list gives the entity the name
pub data Gives (m : Module) (fs : List Interface) (x : List ℕ) (e : Entity) : Export → Namespace → Type 0 where
  a_value : {n : Identifier} → Means m fs Values n e → n.text ≡ x → Gives m fs x e (export.Var n) Values
  a_type : {n : Identifier} {s : SubItems} → Means m fs Types n e → n.text ≡ x → Gives m fs x e (export.Con n s) Types
  each_constructor : {n : Identifier} {t : Entity} → Means m fs Types n t → HasConstructor m fs t x e → Gives m fs x e (export.Con n subs.All) Constructors
  a_constructor : {n c : Identifier} {cs : List Identifier} {t : Entity} → Means m fs Types n t → Contains cs c → c.text ≡ x → HasConstructor m fs t x e → Gives m fs x e (export.Con n (subs.Some cs)) Constructors
  whole : {n : Identifier} {s : Namespace} → IsModuleName m n.text → InScope m fs s None x e → InScope m fs s (Some n.text) x e → Gives m fs x e (export.Whole n) s

-- the module exports the entity e under the name x: it declares e and has no export list, or its export list gives the name
pub data IsExported (m : Module) (fs : List Interface) (s : Namespace) (x : List ℕ) (e : Entity) : Type 0 where
  all : m.header.exports ≡ None → Declares m x s → e ≡ own m x → IsExported m fs s x e
  listed : {es : List Export} {i : Export} → m.header.exports ≡ Some es → Contains es i → Gives m fs x e i s → IsExported m fs s x e
