-- The groups of a graph of one node.
use Rattle.std.proofs.Common.{◌≡◌, ℕ, zero, suc, ◌<◌, List, [], ◌∷◌, length, take, slice_index_or, Contains, inl, inr, refl, sym, ◌∙◌, subst, arith, Vec, Global}
use Rattle.std.specs.List.{concat}
use Rattle.std.proofs.lemmas.List.{length-map}
use Rattle.hm_graph_components.specs.Digraph.{Graph, Reaches, IsGroupOf, IsNext, AreGroups, lists}
use Rattle.hm_graph_components.specs.Closure.{one, more}
use Rattle.hm_graph_components.specs.Marks.{IsClosed}
use Rattle.hm_graph_components.proofs.Members.{Contains-nil}

abbrev pub alone : List ℕ
alone = 0 ∷ []

reached_inside : (graph : Graph) (x y : ℕ) → IsClosed graph → Reaches graph x y → y < length graph
reached_inside graph x y closed (one e) = closed x y e
reached_inside graph x y closed (more r e) = closed _ y e

is_zero : (y n : ℕ) → n ≡ 1 → y < n → y ≡ 0
is_zero y n size below = omega (arith, size, below)

has_zero : Contains alone 0
has_zero = (0, omega arith, refl)

only_zero : (y : ℕ) → Contains alone y → y ≡ 0
only_zero y (zero, below, e) = sym e
only_zero y (suc k, below, e) = let none : ⊥ = omega (arith, below) in absurd none

lone_group : (graph : Graph) → length graph ≡ 1 → IsGroupOf graph 0 alone
lone_group graph size = record {
  members = λ y. (
    (λ there. let same = only_zero y there in (omega (arith, same, size), inl (sym same))),
    (λ member. subst (λ n. Contains alone n) (sym (is_zero y (length graph) size member.0)) has_zero),
  );
  ascending = λ k below. let none : ⊥ = omega (arith, below) in absurd none;
}

lone_next : (graph : Graph) → IsClosed graph → length graph ≡ 1 → IsNext graph [] alone
lone_next graph closed size = record {
  least = 0;
  may_come = record {
    node = omega (arith, size);
    absent = Contains-nil 0;
    after = λ y r.
        let same = is_zero y (length graph) size (reached_inside graph 0 y closed r) in
        inr (subst (λ n. Reaches graph n 0) (sym same) (subst (λ n. Reaches graph 0 n) same r));
  };
  first = λ y comes. omega arith;
  group_of = lone_group graph size;
}

of_one : (graph : Graph) → IsClosed graph → length graph ≡ 1 → AreGroups graph (alone ∷ [])
of_one graph closed size = record {
  each = λ i below.
      subst (λ n. IsNext graph (concat (take n (alone ∷ []))) (slice_index_or (alone ∷ []) n [])) (sym (is_zero i 1 refl below)) (lone_next graph closed size);
  all = λ x below. subst (λ n. Contains alone n) (sym (is_zero x (length graph) size below)) has_zero;
}

pub lone_groups : (rows groups : List (Vec ℕ Global)) → IsClosed (lists rows) → length rows ≡ 1 → lists groups ≡ alone ∷ [] → AreGroups (lists rows) (lists groups)
lone_groups rows groups closed size are = subst (AreGroups (lists rows)) (sym are) (of_one (lists rows) closed (length-map rows (λ row. row.items) ∙ size))
