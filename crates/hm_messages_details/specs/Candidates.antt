-- The entities of an ambiguous name, with the names that mean each of them alone (Report, sections 5.3 and 5.5.2).
use Rattle.std.specs.Prelude.{◌≡◌, ◌⊎◌, ℕ, Bool, true, List, Option, None, Some, All, Contains}
use Rattle.hm_types.specs.declared.Entity.{Entity}
use Rattle.hm_types.specs.Interfaces.{Exports as Interface}
use Rattle.hm_syntax.specs.Names.{Identifier}
use Rattle.hm_syntax.specs.declared.ast.Module.{Module}
use Rattle.hm_syntax.specs.declared.ast.Import.{Import}
use Rattle.hm_names.specs.Bindings.{Pair}
use Rattle.hm_names.specs.Scope.{Brings, Means, known_as, prelude_name}
use Rattle.hm_names.specs.declared.namespace.Namespace.{Namespace}

-- an entity; a qualifier with which its name means it alone; the line of the import that brings it in with that qualifier; whether it comes from the implicit
-- import of Prelude alone
pub record Candidate : Type 0 where
  pub entity : Entity
  pub qualifier : Option (List ℕ)
  pub line : Option ℕ
  pub implicit : Bool

-- an import with this qualifier is in this line
abbrev pub IsInLine : List ℕ → ℕ → Import → Type 0
IsInLine q line i = known_as i ≡ q → i.name.line ≡ line

-- the imports with this qualifier are in this line, and one of them brings the entity in under its name (Report, section 5.3)
pub record IsImportLine (m : Module) (fs : List Interface) (space : Namespace) (e : Entity) (q : List ℕ) (line : ℕ) : Type 0 where
  pub import : Import
  pub interface : Interface
  pub written : Contains m.header.imports import
  pub among : Contains fs interface
  pub from : interface.name ≡ import.name.text
  pub brings : Brings interface import space e.name e
  pub known : known_as import ≡ q
  pub each : All (IsInLine q line) m.header.imports

-- the import names another module, and calls it otherwise
pub record IsOther (i : Import) : Type 0 where
  pub name : ¬ (i.name.text ≡ prelude_name)
  pub known : ¬ (known_as i ≡ prelude_name)

-- Prelude defines the entity and is imported implicitly, and no other import brings the entity in, so an import of Prelude can hide it (Report, section 5.6)
pub record IsImplicit (m : Module) (fs : List Interface) (space : Namespace) (e : Entity) : Type 0 where
  pub defined : e.«module» ≡ prelude_name
  pub others : All IsOther m.header.imports
  pub alone : (i : Import) (f : Interface) → Contains m.header.imports i → Contains fs f → f.name ≡ i.name.text → ¬ (Brings f i space e.name e)

-- it is this entity, and what is said of it is so
pub record IsCandidate (m : Module) (fs : List Interface) (space : Namespace) (e : Entity) (c : Candidate) : Type 0 where
  pub entity_is : c.entity ≡ e
  pub means : (n : Identifier) (q : List ℕ) → c.qualifier ≡ Some q → n.qualifier ≡ Some q → n.text ≡ e.name → Means m fs space n e
  pub line : (q : List ℕ) (l : ℕ) → c.qualifier ≡ Some q → c.line ≡ Some l → IsImportLine m fs space e q l
  pub implicit : c.implicit ≡ true → IsImplicit m fs space e

-- what the code finds; no public clause names these

-- the pair has this qualifier, and the entity under its name
pub record IsUnder (space : Namespace) (q : List ℕ) (e : Entity) (p : Pair) : Type 0 where
  pub space_is : p.space ≡ space
  pub qualifier_is : p.qualifier ≡ Some q
  pub text_is : p.text ≡ e.name
  pub entity_is : p.entity ≡ e

-- a pair with this qualifier and the entity's name has this entity
abbrev pub MeansOnly : Namespace → List ℕ → Entity → Pair → Type 0
MeansOnly space q e p = p.space ≡ space → p.qualifier ≡ Some q → p.text ≡ e.name → p.entity ≡ e

-- one of the pairs has this qualifier and the entity under its name, and each with that qualifier and that name has this entity
pub record IsAlone (pairs : List Pair) (space : Namespace) (q : List ℕ) (e : Entity) : Type 0 where
  pub pair : Pair
  pub among : Contains pairs pair
  pub under : IsUnder space q e pair
  pub each : All (MeansOnly space q e) pairs

-- the imports with this qualifier are in this line, and there is one
pub record HasLine (imports : List Import) (q : List ℕ) (line : ℕ) : Type 0 where
  pub import : Import
  pub written : Contains imports import
  pub known : known_as import ≡ q
  pub each : All (IsInLine q line) imports

-- neither a declaration of the module nor the implicit import of Prelude gives a name this qualifier
pub record IsOfImports (m : Module) (q : List ℕ) : Type 0 where
  pub not_own : ¬ (q ≡ m.header.name.text)
  pub not_implicit : ¬ (q ≡ prelude_name) ⊎ ((i : Import) × Contains m.header.imports i × (i.name.text ≡ prelude_name))

-- a pair with the entity under its name is bare, or has Prelude's name for its qualifier
abbrev pub IsByPrelude : Namespace → Entity → Pair → Type 0
IsByPrelude space e p = p.space ≡ space → p.text ≡ e.name → p.entity ≡ e → (p.qualifier ≡ None) ⊎ (p.qualifier ≡ Some prelude_name)
