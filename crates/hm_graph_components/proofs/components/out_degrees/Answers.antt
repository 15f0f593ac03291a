use Rattle.std.proofs.Common.{◌≡◌, length, arith}
use Rattle.std.proofs.lemmas.List.{length-map}
use Rattle.hm_graph_components.specs.Digraph.{lists}
use Rattle.hm_graph_components.proofs.Rows.{All-row_at}
use Rattle.hm_graph_components.proofs.components.out_degrees.Goals as goal

pub count_edges_out-requires : goal.count_edges_out-requires
count_edges_out-requires c =
    let n_is : length c.args.numbers.now ≡ length (lists c.args.rows.now) = omega (arith, c.requires.len, length-map c.args.rows.now (λ r. r.items)) in
    rw c.deref.ensures.value (All-row_at c.args.rows.now c.loop-x.x (length c.args.numbers.now) c.index-rows-x.result c.requires.closed c.loop-x-test.true c.index-rows-x.is n_is)
