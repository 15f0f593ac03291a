-- The nodes and edges of a declaration list's graph. Nodes are numbered from the last binding to the first, as bindings_of builds the list. No public
-- clause names these.
use Rattle.std.specs.Prelude.{◌≡◌, ℕ, ◌+◌, ◌<◌, ◌⊎◌, ◌↔◌, Bool, true, false, cond, List, [], ◌∷◌, ◌++◌, length, map, Option, Some, None, is_some, slice_index_or}
use Rattle.std.specs.Str.{bytes_eq}
use Rattle.std.specs.List.{slice_get}
use Rattle.std.specs.Borrow.{Bor}
use Rattle.std.specs.declared.hash.FoldHasher.{FoldHasher}
use Rattle.std.specs.declared.hash.BuildHasherDefault.{BuildHasherDefault}
use Rattle.indexmap.specs.IndexSet.{IndexSet, contains_by}
use Rattle.hm_graph_components.specs.Digraph.{Graph, Edge}
use Rattle.hm_syntax.specs.Trees.{Declaration, data_declaration, newtype_declaration, synonym_declaration, signature, clause, pattern_binding, Declarations, no_declarations, more_declarations}
use Rattle.hm_names.specs.Syntax.{is_continued, signature_of}
use Rattle.hm_names_keys.specs.Variables.{Variable, variable_of}
use Rattle.hm_infer_dependencies.specs.References.{pattern_variables, DeclarationRefers}
use Rattle.hm_infer_dependencies.specs.Walks.{IsNodeWith}
use Rattle.hm_typing.specs.Names.{IsOneOf}

-- a set of the texts with signatures
abbrev pub Texts : Type 0
Texts = IndexSet (Bor (List ℕ)) (BuildHasherDefault FoldHasher)

abbrev pub has_text : Texts → List ℕ → Bool
has_text texts x = contains_by (λ k. bytes_eq x k.now) texts

abbrev pub is_signed : Declarations → List ℕ → Bool
is_signed all x = is_some (signature_of x all)

abbrev pub AreSigned : Declarations → Texts → Type 0
AreSigned all texts = (x : List ℕ) → has_text texts x ≡ is_signed all x

-- the nodes that a declaration adds, before those of the declarations after it
abbrev pub new_nodes : Declarations → Declaration → Declarations → List (Option Variable)
new_nodes all (data_declaration n ps cs) ds = []
new_nodes all (newtype_declaration n ps c) ds = []
new_nodes all (synonym_declaration n ps t) ds = []
new_nodes all (signature ns t) ds = []
new_nodes all (clause n ps r) ds = cond (is_continued n.text ps ds) [] (cond (is_signed all n.text) [] (Some (variable_of n) ∷ []))
new_nodes all (pattern_binding l c p r) ds = map Some (pattern_variables p) ++ None ∷ []

abbrev pub list_nodes : Declarations → Declarations → List (Option Variable)
list_nodes all no_declarations = []
list_nodes all (more_declarations d ds) = list_nodes all ds ++ new_nodes all d ds

-- a variable is at two places
pub record IsRepeated (nodes : List (Option Variable)) : Type 0 where
  pub variable : Variable
  pub first : ℕ
  pub second : ℕ
  pub apart : first < second
  pub at_first : slice_get nodes first ≡ Some (Some variable)
  pub at_second : slice_get nodes second ≡ Some (Some variable)

-- the node of the first declaration's binding
abbrev mutual
  pub owner : Declarations → Declarations → Option ℕ
  owner all no_declarations = None
  owner all (more_declarations d ds) = owner_of all d ds (owner all ds)

  pub owner_of : Declarations → Declaration → Declarations → Option ℕ → Option ℕ
  owner_of all (data_declaration n ps cs) ds behind = None
  owner_of all (newtype_declaration n ps c) ds behind = None
  owner_of all (synonym_declaration n ps t) ds behind = None
  owner_of all (signature ns t) ds behind = None
  owner_of all (clause n ps r) ds behind = cond (is_continued n.text ps ds) behind (cond (is_signed all n.text) None (Some (length (list_nodes all ds))))
  owner_of all (pattern_binding l c p r) ds behind = Some (length (list_nodes all ds) + length (pattern_variables p))

-- the nodes of all declarations' bindings, the last declaration's first
abbrev pub owners : Declarations → Declarations → List (Option ℕ)
owners all no_declarations = []
owners all (more_declarations d ds) = owners all ds ++ owner all (more_declarations d ds) ∷ []

-- edges between the variables of a pattern binding and its own node, both ways
abbrev pub Star : List (Option Variable) → Declaration → ℕ → ℕ → ℕ → Type 0
Star nodes (data_declaration n ps cs) own from to = ⊥
Star nodes (newtype_declaration n ps c) own from to = ⊥
Star nodes (synonym_declaration n ps t) own from to = ⊥
Star nodes (signature ns t) own from to = ⊥
Star nodes (clause n ps r) own from to = ⊥
Star nodes (pattern_binding l c p r) own from to = ((from ≡ own) × IsNodeWith nodes (λ y. IsOneOf y (pattern_variables p)) to) ⊎ ((to ≡ own) × IsNodeWith nodes (λ y. IsOneOf y (pattern_variables p)) from)

-- the edges of a declaration with its node: to the nodes to which it refers, and its star
abbrev pub DeclarationEdge : List (Option Variable) → Declaration → ℕ → ℕ → ℕ → Type 0
DeclarationEdge nodes d own from to = ((from ≡ own) × IsNodeWith nodes (λ y. DeclarationRefers y d) to) ⊎ Star nodes d own from to

-- the edges of a list
abbrev pub ListEdge : Declarations → List (Option Variable) → Declarations → ℕ → ℕ → Type 0
ListEdge all nodes no_declarations from to = ⊥
ListEdge all nodes (more_declarations d ds) from to = ((own : ℕ) × (owner all (more_declarations d ds) ≡ Some own) × DeclarationEdge nodes d own from to) ⊎ ListEdge all nodes ds from to

-- a graph has these edges and those of an older one
abbrev pub AddsEdges : Graph → Graph → (ℕ → ℕ → Type 0) → Type 0
AddsEdges old new E = (x y : ℕ) → Edge new x y ↔ (Edge old x y ⊎ E x y)

-- all nodes are shown
pub record AllShown (shown : List Bool) (count : ℕ) : Type 0 where
  pub size : length shown ≡ count
  pub each : (k : ℕ) → k < count → slice_index_or shown k false ≡ true

-- the graph of a list
pub record IsGraphOf (all : Declarations) (graph : Graph) : Type 0 where
  pub size : length graph ≡ length (list_nodes all all)
  pub edges : (x y : ℕ) → Edge graph x y ↔ ListEdge all (list_nodes all all) all x y
