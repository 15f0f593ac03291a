use Rattle.std.proofs.Common.{◌≡◌, length, arith, get_or, vec_len, []}
use Rattle.std.proofs.lemmas.List.{length-map}
use Rattle.hm_graph_components.specs.Digraph.{lists}
use Rattle.hm_graph_components.specs.Reversed.{ReversesRow}
use Rattle.hm_graph_components.proofs.Rows.{row_at, All-row_at}
use Rattle.hm_graph_components.proofs.Reversing.{IsReversed-more}
use Rattle.hm_graph_components.proofs.reversal.reversed_rows.Goals as goal

pub reverse_row-requires : goal.reverse_row-requires
reverse_row-requires c =
    let long : vec_len c.loop-x.back ≡ length (lists c.args.rows.now) =
    omega (arith, c.loop-x.back.ok.0, c.loop-x.invariant.len, length-map c.loop-x.back.items (λ r. r.items)) in
    rw c.deref.ensures.value
    (All-row_at c.args.rows.now c.loop-x.x (vec_len c.loop-x.back) c.index-rows-x.result c.requires c.loop-x-test.true c.index-rows-x.is long)

pub loop-x-preserved : goal.loop-x-preserved
loop-x-preserved c =
    let turns : ReversesRow (lists c.loop-x.back.items) (lists c.reverse_row.new.back.items) (get_or (lists c.args.rows.now) c.loop-x.x []) c.loop-x.x =
    rw (row_at c.args.rows.now c.loop-x.x c.index-rows-x.result c.loop-x-test.true c.index-rows-x.is, ← c.deref.ensures.value) c.in_ok-reverse_row.ensures in
    IsReversed-more (lists c.args.rows.now) (lists c.loop-x.back.items) (lists c.reverse_row.new.back.items) c.loop-x.x c.loop-x.invariant turns

pub returns-clause-len : goal.returns-clause-len
returns-clause-len c = omega (arith, c.loop-x.invariant.len, length-map c.args.rows.now (λ r. r.items), length-map c.loop-x.back.items (λ r. r.items))

pub returns-clause-closed : goal.returns-clause-closed
returns-clause-closed c = λ y x edge.
    omega (arith, (c.loop-x.invariant.edges y x edge).0, c.loop-x.invariant.len, length-map c.args.rows.now (λ r. r.items))

pub returns-clause-edges : goal.returns-clause-edges
returns-clause-edges c = λ x y edge. (c.loop-x.invariant.edges y x edge).1
