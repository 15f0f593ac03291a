-- What is reached in the graph of a module's synonyms is what synonyms reach.
use Rattle.std.proofs.Common.{◌≡◌, ℕ, ◌<◌, List, [], length, sym, ◌∙◌, subst}
use Rattle.std.specs.List.{Contains}
use Rattle.std.specs.Prelude.{slice_index_or}
use Rattle.std.proofs.lemmas.List.{get_or_default}
use Rattle.hm_types.specs.Interfaces.{Exports as Interface}
use Rattle.hm_syntax.specs.declared.ast.Module.{Module}
use Rattle.hm_graph_components.specs.Closure.{Closure, one, more}
use Rattle.hm_graph_components.specs.Digraph.{Graph, Edge}
use Rattle.hm_names.specs.Faults.Arities.{RefersTo, refers, Reaches, directly, through}
use Rattle.hm_scope.specs.Synonyms.{DeclaresSynonym, AreSynonyms, IsReferenceGraph}

append : (m : Module) (fs : List Interface) {x y z : List ℕ} → Reaches m fs x y → RefersTo m fs y z → Reaches m fs x z
append m fs (directly p) q = through p (directly q)
append m fs (through p r) q = through p (append m fs r q)

begins : (m : Module) (fs : List Interface) {x y : List ℕ} → RefersTo m fs x y → DeclaresSynonym m.decls x
begins m fs (refers {n} {k} {ps} {t} has is c e) = (n, ps, t, (has, is))

starts : (m : Module) (fs : List Interface) {x y : List ℕ} → Reaches m fs x y → DeclaresSynonym m.decls x
starts m fs (directly p) = begins m fs p
starts m fs (through p r) = begins m fs p

prepend : (graph : Graph) {i j k : ℕ} → Edge graph i j → Closure (Edge graph) j k → Closure (Edge graph) i k
prepend graph e (one f) = more (one e) f
prepend graph e (more c f) = more (prepend graph e c) f

module _ (m : Module) (fs : List Interface) (names : List (List ℕ)) (graph : Graph) (syn : AreSynonyms m.decls names) (g : IsReferenceGraph m fs names graph) where
  abbrev at : ℕ → List ℕ
  at i = slice_index_or names i []

  pub reached : (i j : ℕ) → i < length names → Closure (Edge graph) i j → (j < length names) × Reaches m fs (at i) (at j)
  reached i j inside (one e) = let b = g.within i j e in (b, directly ((g.edges i j inside b).0 e))
  reached i j inside (more {b} c e) = let r = reached i b inside c in let k = g.within b j e in (k, append m fs r.1 ((g.edges b j r.0 k).0 e))

  found : (x : List ℕ) → Contains names x → (k : ℕ) × ((k < length names) × (at k ≡ x))
  found x (k, inside, is) = (k, (inside, get_or_default names k [] x inside ∙ is))

  pub reaches : (x y : List ℕ) → Reaches m fs x y → (i j : ℕ) → i < length names → j < length names → at i ≡ x → at j ≡ y → Closure (Edge graph) i j
  reaches x y (directly p) i j a b e f = one ((g.edges i j a b).1 (subst (λ u. RefersTo m fs u (at j)) (sym e) (subst (λ u. RefersTo m fs x u) (sym f) p)))
  reaches x y (through {y = w} p r) i j a b e f =
      let k = found w ((syn.all w).1 (starts m fs r)) in
      prepend graph ((g.edges i k.0 a k.1.0).1 (subst (λ u. RefersTo m fs u (at k.0)) (sym e) (subst (λ u. RefersTo m fs x u) (sym k.1.1) p))) (reaches w y r k.0 j k.1.0 b k.1.1 f)
