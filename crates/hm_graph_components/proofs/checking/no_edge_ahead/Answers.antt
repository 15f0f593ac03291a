use Rattle.std.proofs.Common.{◌≡◌, ◌≤◌, inl, inr, length, All, Contains, get_or, arith, rules}
use Rattle.std.proofs.lemmas.Bool.{cases_lt}
use Rattle.std.proofs.lemmas.List.{length-map}
use Rattle.std.proofs.lemmas.List.Elements.{All-contains}
use Rattle.hm_graph_components.specs.Digraph.{lists}
use Rattle.hm_graph_components.specs.Checks.{number_of}
use Rattle.hm_graph_components.proofs.Rows.{row_at, All-row_at}
use Rattle.hm_graph_components.proofs.checking.no_edge_ahead.Goals as goal

pub is_not_ahead-requires : goal.is_not_ahead-requires
is_not_ahead-requires c =
    let n_is : length c.args.numbers.now ≡ length (lists c.args.rows.now) = omega (arith, c.requires.len, length-map c.args.rows.now (λ r. r.items)) in
    rw c.deref.ensures.value
    (All-row_at c.args.rows.now c.loop-x.x (length c.args.numbers.now) c.index-rows-x.result c.requires.closed c.loop-x-test.true c.index-rows-x.is n_is)

pub loop-x-preserved : goal.loop-x-preserved
loop-x-preserved c = λ x y below edge.
    let down : All (λ y. number_of c.args.numbers.now y ≤ get_or c.args.numbers.now c.loop-x.x 0) c.deref.result.now = search rules in
    elim (cases_lt x c.loop-x.x) [
      | inl less ↦ c.loop-x.invariant x y less edge
      | inr past ↦
          let same : x ≡ c.loop-x.x = omega arith in
          let there : Contains c.deref.result.now y = rw (same, row_at c.args.rows.now c.loop-x.x c.index-rows-x.result c.loop-x-test.true c.index-rows-x.is, ← c.deref.ensures.value) at edge in
          rw same (All-contains (λ y. number_of c.args.numbers.now y ≤ get_or c.args.numbers.now c.loop-x.x 0) c.deref.result.now y down there)
    ]
