use Rattle.std.proofs.Common.{◌<◌, length, arith, get_or}
use Rattle.std.proofs.lemmas.List.{length-map}
use Rattle.hm_graph_components.specs.Digraph.{lists}
use Rattle.hm_graph_components.proofs.Rows.{lists-set_push}
use Rattle.hm_graph_components.proofs.Reversing.{ReversesRow-more}
use Rattle.hm_graph_components.proofs.reversal.reverse_row.Goals as goal

pub loop-y-preserved : goal.loop-y-preserved
loop-y-preserved c =
    let at_below : get_or c.args.row.now c.loop-y.y-index 0 < length (lists c.loop-y.back.items) =
    omega (arith, c.requires c.loop-y.y-index 0 c.loop-y-test.true, c.args.back.now.ok.0, c.loop-y.invariant.len, length-map c.args.back.now.items (λ r. r.items)) in
    let below : get_or c.args.row.now c.loop-y.y-index 0 < length c.loop-y.back.items = omega (arith, length-map c.loop-y.back.items (λ r. r.items)) in
    let written = lists-set_push c.loop-y.back.items (get_or c.args.row.now c.loop-y.y-index 0) c.args.from c.index_mut-list.result.now c.push.new.self below c.index_mut-list.ensures.value c.in_ok-push.ensures.items in
    rw written
    (ReversesRow-more (lists c.args.back.now.items) (lists c.loop-y.back.items) c.args.row.now c.args.from c.loop-y.y-index c.loop-y-test.true at_below c.loop-y.invariant)
