-- The places of the declarations of each node's binding, from the last declaration to the first.
use Rattle.std.proofs.Common.{◌≡◌, ℕ, ◌+◌, ◌-◌, ◌<◌, ◌≤◌, ◌⊎◌, ⊎_elim, inl, inr, List, [], ◌∷◌, ◌++◌, set, length, get_or, drop, replicate, Option, Some, None, refl, sym, ap, ◌∙◌, subst, arith, ◌↔◌, Vec, Global}
use Rattle.hm_graph_components.specs.Digraph.{Graph, Edge, lists}
use Rattle.hm_graph_components.proofs.Rows.{AddsEdge-rows, Edge-replicate}
use Rattle.hm_syntax.specs.Trees.{Declaration}
use Rattle.hm_syntax.specs.Lists.{declarations}
use Rattle.hm_infer_dependencies.specs.Nodes.{owner, AddsEdges}
use Rattle.hm_infer_dependencies.specs.Members.{AreRows}
use Rattle.hm_infer_dependencies.proofs.EdgeLists.{adds_one, adds_iff}
use Rattle.hm_names_keys.proofs.Pushed.{some_injective}

pub added_place : (rows : List (Vec ℕ Global)) (o : Option ℕ) (own place : ℕ) (old new : Vec ℕ Global) → o ≡ Some own → own < length rows → old ≡ get_or rows own old → new.items ≡ old.items ++ place ∷ [] →
    AddsEdges (lists rows) (lists (set rows own new)) (λ x y. (o ≡ Some x) × (y ≡ place))
added_place rows o own place old new e h is pushed =
    adds_iff (lists rows) (lists (set rows own new)) (λ x y. (x ≡ own) × (y ≡ place)) (λ x y. (o ≡ Some x) × (y ≡ place))
    (λ x y p. (e ∙ ap Some (sym p.0), p.1)) (λ x y p. (some_injective (sym p.0 ∙ e), p.1))
    (adds_one (lists rows) (lists (set rows own new)) own place (AddsEdge-rows rows own place old new h is pushed))

-- the places that were seen, those of the last declarations
abbrev pub SeenPlaces : List Declaration → Graph → ℕ → Type 0
SeenPlaces decls rows behind = (own place : ℕ) → Edge rows own place ↔ ((place < length decls) × ((length decls ≤ place + behind) × (owner (declarations decls) (declarations (drop place decls)) ≡ Some own)))

pub places_none : (decls : List Declaration) (rows : Graph) (count : ℕ) → rows ≡ replicate count [] → SeenPlaces decls rows 0
places_none decls rows count e own place = ((λ h. absurd (Edge-replicate count own place (subst (λ g. Edge g own place) e h))), (λ p. absurd (let a = p.0 in let b = p.1.0 in omega arith)))

pub places_step : (decls : List Declaration) (a b : Graph) (behind place : ℕ) (o : Option ℕ) → behind < length decls → place ≡ length decls - 1 - behind → o ≡ owner (declarations decls) (declarations (drop (length decls - (behind + 1)) decls)) →
    AddsEdges a b (λ x y. (o ≡ Some x) × (y ≡ place)) → SeenPlaces decls a behind → SeenPlaces decls b (behind + 1)
places_step decls a b behind place o l p e adds seen own at = (
  (λ h. ⊎_elim
      (λ k. let q = (seen own at).0 k in (q.0, ((let m = q.1.0 in omega arith), q.1.1)))
      (λ k. (
        (let m = k.1 in omega (arith, m, p)),
        ((let m = k.1 in omega (arith, m, p)), subst (λ i. owner (declarations decls) (declarations (drop i decls)) ≡ Some own) (sym (here k.1)) (sym e ∙ k.0)),
      ))
      ((adds own at).0 h)),
  (λ q. (adds own at).1 (⊎_elim
      (λ m. inl ((seen own at).1 (q.0, (m, q.1.1))))
      (λ m. inr (e ∙ subst (λ i. owner (declarations decls) (declarations (drop i decls)) ≡ Some own) (last m) q.1.1, (let g : at ≡ length decls - (behind + 1) = last m in omega arith)))
      (either q.0 q.1.0))),
)
  where
    here : at ≡ place → at ≡ length decls - (behind + 1)
    here k = omega arith

    last : at + (behind + 1) ≡ length decls → at ≡ length decls - (behind + 1)
    last m = omega arith

    either : at < length decls → length decls ≤ at + (behind + 1) → (length decls ≤ at + behind) ⊎ (at + (behind + 1) ≡ length decls)
    either h k = cases (Rattle.std.proofs.Common.eq-or-lt_of_le k)
      where
        cases : (length decls ≡ at + (behind + 1)) ⊎ (length decls < at + (behind + 1)) → (length decls ≤ at + behind) ⊎ (at + (behind + 1) ≡ length decls)
        cases (inl x) = inr (sym x)
        cases (inr x) = inl (omega arith)

pub places_done : (decls : List Declaration) (rows : Graph) (behind count : ℕ) → length decls ≤ behind → length rows ≡ count → SeenPlaces decls rows behind → AreRows decls count rows
places_done decls rows behind count l n seen = record {
  size = n;
  each = λ own place. (
    (λ h. let q = (seen own place).0 h in (q.0, q.1.1)),
    (λ q. (seen own place).1 (q.0, ((let m = q.0 in omega arith), q.1))),
  );
}
