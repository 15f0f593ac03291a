-- The references of a module's synonyms to each other, as the code computes them. No public clause names these.
use Rattle.std.specs.Prelude.{◌≡◌, ℕ, ◌<◌, ◌↔◌, ◌⊎◌, Bool, true, false, List, [], map, length, slice_index, slice_index_or, take, Contains}
use Rattle.hm_types.specs.Interfaces.{Exports as Interface}
use Rattle.hm_syntax.specs.Names.{Identifier}
use Rattle.hm_syntax.specs.Trees.{TypeTree, Declaration, synonym_declaration}
use Rattle.hm_syntax.specs.declared.ast.Module.{Module}
use Rattle.hm_graph_components.specs.Digraph.{Graph, Edge}
use Rattle.hm_types.specs.declared.Entity.{Entity}
use Rattle.hm_scope.specs.declared.declared_synonyms.OwnSynonym.{OwnSynonym}
use Rattle.hm_scope.specs.declared.declared_synonyms.OwnSynonyms.{OwnSynonyms}
use Rattle.hm_names.specs.declared.faults.Kind.{Kind}
use Rattle.hm_names.specs.declared.faults.Kind.TheVariants.{Recursive}
use Rattle.hm_names.specs.Variables.{constructors_in}
use Rattle.hm_names.specs.Resolved.{Resolver, IsResolver}
use Rattle.hm_names.specs.Found.{KnownSynonym, synonym_among}
use Rattle.hm_names.specs.declared.faults.Fault.{Fault}
use Rattle.hm_names.specs.declared.namespace.Namespace.TheVariants.{Types}
use Rattle.hm_names.specs.Entities.{own, named}
use Rattle.hm_names.specs.Scope.{Means}
use Rattle.hm_names.specs.Faults.Arities.{RefersTo, SynonymFault}
use Rattle.hm_names.specs.Faults.Phases.{IsWellFormed, fault}

-- the declarations declare a synonym of this name
abbrev pub DeclaresSynonym : List Declaration → List ℕ → Type 0
DeclaresSynonym ds x = (n : Identifier) × (ps : List Identifier) × (t : TypeTree) × (Contains ds (synonym_declaration n ps t) × (n.text ≡ x))

-- no name occurs twice
abbrev pub IsOnce : List (List ℕ) → Type 0
IsOnce names = (i j : ℕ) → i < length names → j < length names → slice_index_or names i [] ≡ slice_index_or names j [] → i ≡ j

-- the names are those of the synonyms, each once
pub record AreSynonyms (ds : List Declaration) (names : List (List ℕ)) : Type 0 where
  pub all : (x : List ℕ) → Contains names x ↔ DeclaresSynonym ds x
  pub once : IsOnce names

-- the graph has a node for each name, and an edge from each synonym to those to which it refers
pub record IsReferenceGraph (m : Module) (fs : List Interface) (names : List (List ℕ)) (graph : Graph) : Type 0 where
  pub nodes : length graph ≡ length names
  pub edges : (i j : ℕ) → i < length names → j < length names → Edge graph i j ↔ RefersTo m fs (slice_index_or names i []) (slice_index_or names j [])
  pub within : (i j : ℕ) → Edge graph i j → j < length names

-- one of the names means the module's own entity x
abbrev pub NamesOwn : Module → List Interface → List Identifier → List ℕ → Type 0
NamesOwn m fs used x = (k : Identifier) × (Contains used k × Means m fs Types k (own m x))

pub record HasSynonymFault (m : Module) (fs : List Interface) (f : Fault) : Type 0 where
  pub kind : Kind
  pub name : Identifier
  pub stands : SynonymFault m fs kind name
  pub is : f ≡ fault kind name

-- the declaration that is borrowed
abbrev pub declaration_of : OwnSynonym → Declaration
declaration_of s = synonym_declaration s.name.now s.params.now s.ty.now

-- the synonyms of these declarations by name, each with a declaration of it
pub record AreOwnSynonyms (ds : List Declaration) (synonyms : OwnSynonyms) : Type 0 where
  pub names : AreSynonyms ds synonyms.names
  pub same : synonyms.names ≡ map (λ s. s.name.now.text) synonyms.declared.items
  pub stand : (s : OwnSynonym) → Contains synonyms.declared.items s → Contains ds (declaration_of s)

-- these declarations declare the synonym x, and its right side has the type constructor y of the module
pub record RefersIn (m : Module) (fs : List Interface) (ds : List Declaration) (x y : List ℕ) : Type 0 where
  pub name : Identifier
  pub parameters : List Identifier
  pub type : TypeTree
  pub stands : Contains ds (synonym_declaration name parameters type)
  pub is : name.text ≡ x
  pub names_own : NamesOwn m fs (constructors_in type) y

-- the new graph has the edges of the old one, and one from each node to the synonyms to which it refers
pub record AddsReferences (names : List (List ℕ)) (old new : Graph) (Refers : ℕ → List ℕ → Type 0) : Type 0 where
  pub edges : (i j : ℕ) → i < length names → j < length names → Edge new i j ↔ (Edge old i j ⊎ Refers i (slice_index_or names j []))
  pub within : (i j : ℕ) → Edge new i j → Edge old i j ⊎ (j < length names)

-- a name is marked, by its place in a list of names
pub record IsMarked (names : List (List ℕ)) (marks : List Bool) (x : List ℕ) : Type 0 where
  pub place : ℕ
  pub inside : place < length names
  pub is_name : slice_index_or names place [] ≡ x
  pub marked : slice_index_or marks place false ≡ true

-- the fault of a declaration of a marked synonym
pub record IsMarkedFault (names : List (List ℕ)) (marks : List Bool) (ds : List Declaration) (f : Fault) : Type 0 where
  pub name : Identifier
  pub parameters : List Identifier
  pub type : TypeTree
  pub stands : Contains ds (synonym_declaration name parameters type)
  pub marked : IsMarked names marks name.text
  pub is : f ≡ fault Recursive name

-- the tables have for an entity the synonym that the resolver has
abbrev pub IsSettled : Resolver → List KnownSynonym → Entity → Type 0
IsSettled r synonyms e = synonym_among synonyms e ≡ r.synonym e

-- each type constructor in the right side of a synonym of the order is settled, or a synonym earlier in the order
pub record IsExpandable (m : Module) (fs : List Interface) (r : Resolver) (declared : List OwnSynonym) (order : List ℕ) (known : List KnownSynonym) : Type 0 where
  pub resolver : IsResolver m fs r
  pub well_formed : IsWellFormed m fs
  pub stand : (s : OwnSynonym) → Contains declared s → Contains m.decls (declaration_of s)
  pub ready : (i : ℕ) (d : OwnSynonym) (o : Identifier) (e : Entity) → i < length order → slice_index order i < length declared →
      Contains (constructors_in (slice_index_or declared (slice_index order i) d).ty.now) o → Means m fs Types o e →
      IsSettled r known e ⊎ ((k : ℕ) × (Contains (take i order) k × ((k < length declared) × (e ≡ own m (slice_index_or declared k d).name.now.text))))

-- settled entities stay settled, and the synonyms of the order become settled
pub record Finishes (r : Resolver) (home : List ℕ) (declared : List OwnSynonym) (order : List ℕ) (old new : List KnownSynonym) : Type 0 where
  pub kept : (e : Entity) → IsSettled r old e → IsSettled r new e
  pub finished : (k : ℕ) (d : OwnSynonym) → Contains order k → k < length declared → IsSettled r new (named home (slice_index_or declared k d).name.now.text)
