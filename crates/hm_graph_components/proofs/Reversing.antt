-- the reversed edges, as far as it is done
use Rattle.std.proofs.Common.{ℕ, ◌+◌, ◌<◌, List, [], ◌∷◌, ◌++◌, length, get_or, take, set, inl, inr, ◌∙◌, arith}
use Rattle.hm_graph_components.specs.Digraph.{Graph, AddsEdge}
use Rattle.hm_graph_components.specs.Reversed.{ReversesRow, IsReversed}
use Rattle.hm_graph_components.proofs.Members.{Contains-take_old, Contains-take_new}
use Rattle.hm_graph_components.proofs.Rows.{AddsEdge-set}

pub ReversesRow-more : (old new : Graph) (row : List ℕ) (from i : ℕ) → i < length row → get_or row i 0 < length new → ReversesRow old new (take i row) from → ReversesRow old (set new (get_or row i 0) (get_or new (get_or row i 0) [] ++ from ∷ [])) (take (i + 1) row) from
ReversesRow-more old new row from i below at_below so_far =
    let adds : AddsEdge new (set new (get_or row i 0) (get_or new (get_or row i 0) [] ++ from ∷ [])) (get_or row i 0) from = AddsEdge-set new (get_or row i 0) from at_below in
    record {
      len = adds.nodes ∙ so_far.len;
      edges = λ y x edge. elim ((adds.edges y x).0 edge) [
        | inl earlier ↦ elim (so_far.edges y x earlier) [ inl was ↦ inl was | inr both ↦ inr (both.0, Contains-take_old row i 0 y below both.1) ]
        | inr both ↦ inr (both.1, Contains-take_new row i 0 y below both.0)
      ];
    }

pub IsReversed-more : (rows old new : Graph) (n : ℕ) → IsReversed rows n old → ReversesRow old new (get_or rows n []) n → IsReversed rows (n + 1) new
IsReversed-more rows old new n so_far row = record {
  len = row.len ∙ so_far.len;
  edges = λ y x edge. elim (row.edges y x edge) [
    | inl was ↦ let both = so_far.edges y x was in (omega (arith, both.0), both.1)
    | inr both ↦ (omega (arith, both.0), rw both.0 both.1)
  ];
}
