-- The synonyms of a module that its core needs, as the code computes them. No public clause names these.
use Rattle.std.specs.Prelude.{◌≡◌, ◌↔◌, ◌<◌, ℕ, Bool, true, false, cond, List, [], length, filter, slice_index_or, Contains}
use Rattle.hm_types.specs.Interfaces.{Exports as Interface}
use Rattle.hm_types.specs.declared.Entity.{Entity}
use Rattle.hm_syntax.specs.Names.{Identifier}
use Rattle.hm_syntax.specs.Trees.{TypeTree, unit_type, Declaration, data_declaration, newtype_declaration, synonym_declaration, signature, clause, pattern_binding}
use Rattle.hm_syntax.specs.declared.ast.Module.{Module}
use Rattle.hm_graph_components.specs.Digraph.{Graph, Edge}
use Rattle.hm_graph_components.specs.Marks.{Spreads}
use Rattle.hm_graph_components.specs.NodeOrders.{IsOrder}
use Rattle.hm_names.specs.declared.namespace.Namespace.TheVariants.{Types}
use Rattle.hm_names.specs.Bindings.{Pair}
use Rattle.hm_names.specs.Entities.{own, named}
use Rattle.hm_names.specs.Exports.{IsExported}
use Rattle.hm_names.specs.Found.{KnownSynonym}
use Rattle.hm_names.specs.Resolved.{Resolver, IsResolver}
use Rattle.hm_names.specs.Scope.{Means}
use Rattle.hm_names.specs.Texts.{is_text_among}
use Rattle.hm_names.specs.Variables.{constructors_in}
use Rattle.hm_scope.specs.Synonyms.{IsSettled}
use Rattle.hm_scope.specs.UsedTypes.{all_types_outside}

-- a binding of the list exports the type x of the module `home`
abbrev pub Exports : List ℕ → List Pair → List ℕ → Type 0
Exports home given x = (p : Pair) × (Contains given p × ((p.space ≡ Types) × (p.entity ≡ named home x)))

-- the module's own types that it exports
abbrev pub AreExportedTypes : Module → List Interface → List (List ℕ) → Type 0
AreExportedTypes m fs xs = (x : List ℕ) → Contains xs x ↔ ((y : List ℕ) × IsExported m fs Types y (own m x))

-- a declaration of a core that exports these types of its module
abbrev pub kept_by : List (List ℕ) → Declaration → Declaration
kept_by xs (data_declaration n ps cs) = data_declaration n ps cs
kept_by xs (newtype_declaration n ps c) = newtype_declaration n ps c
kept_by xs (synonym_declaration n ps t) = synonym_declaration n ps (cond (is_text_among n.text xs) t unit_type)
kept_by xs (signature ns t) = signature ns t
kept_by xs (clause n ps r) = clause n ps r
kept_by xs (pattern_binding line column p r) = pattern_binding line column p r

-- each mark stays
pub record AddsMarks (old new : List Bool) : Type 0 where
  pub nodes : length new ≡ length old
  pub stays : (k : ℕ) → slice_index_or old k false ≡ true → slice_index_or new k false ≡ true

-- the synonyms that one of these names means have a mark
abbrev pub MarksNames : Module → List Interface → List (List ℕ) → List Bool → List Identifier → Type 0
MarksNames m fs names marks os = (o : Identifier) (j : ℕ) → Contains os o → j < length names → Means m fs Types o (own m (slice_index_or names j [])) → slice_index_or marks j false ≡ true

-- each synonym that a type outside of the declarations' synonyms uses gets a mark, and then each to which one with a mark refers
pub record MarksNeeded (m : Module) (fs : List Interface) (names : List (List ℕ)) (ds : List Declaration) (graph : Graph) (old new : List Bool) : Type 0 where
  pub used : List Bool
  pub added : AddsMarks old used
  pub marked : MarksNames m fs names used (all_types_outside ds)
  pub spread : Spreads graph used new

-- each synonym that is exported, or that a type outside of synonyms has, has a mark; and so has each to which one with a mark refers
pub record AreNeeded (m : Module) (fs : List Interface) (names exported : List (List ℕ)) (graph : Graph) (marks : List Bool) : Type 0 where
  pub exported_marked : (j : ℕ) → j < length names → Contains exported (slice_index_or names j []) → slice_index_or marks j false ≡ true
  pub used_marked : MarksNames m fs names marks (all_types_outside m.decls)
  pub closed : (i j : ℕ) → Edge graph i j → slice_index_or marks i false ≡ true → slice_index_or marks j false ≡ true

-- the needed synonyms, in an order of all
pub record IsNeededOrder (m : Module) (fs : List Interface) (names exported : List (List ℕ)) (graph : Graph) (order : List ℕ) : Type 0 where
  pub marks : List Bool
  pub needed : AreNeeded m fs names exported graph marks
  pub all : List ℕ
  pub ordered : IsOrder graph all
  pub is : order ≡ filter (λ k. slice_index_or marks k false) all

-- the tables have what a resolver of the module has, for each type constructor outside of synonyms or in the right side of an exported one
pub record ResolvesNeeded (m : Module) (fs : List Interface) (exported : List (List ℕ)) (known : List KnownSynonym) : Type 0 where
  pub resolver : Resolver
  pub resolves : IsResolver m fs resolver
  pub used : (o : Identifier) (e : Entity) → Contains (all_types_outside m.decls) o → Means m fs Types o e → IsSettled resolver known e
  pub right_sides : (n : Identifier) (ps : List Identifier) (t : TypeTree) (o : Identifier) (e : Entity) → Contains m.decls (synonym_declaration n ps t) → Contains exported n.text
      → Contains (constructors_in t) o → Means m fs Types o e → IsSettled resolver known e
