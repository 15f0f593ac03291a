use Rattle.std.proofs.Common.{◌≡◌, ◌<◌, length, get_or, arith, rules}
use Rattle.std.proofs.lemmas.List.{length-map}
use Rattle.hm_graph_components.specs.Digraph.{lists}
use Rattle.hm_graph_components.proofs.Rows.{All-row_at}
use Rattle.hm_graph_components.proofs.components.place_component.Goals as goal

pub lower_degrees-requires : goal.lower_degrees-requires
lower_degrees-requires c =
    let below : get_or c.args.component.now c.loop-x.x-index 0 < length c.args.back.now = search rules in
    let n_is : length c.args.numbers.now ≡ length (lists c.args.back.now) = omega (arith, c.requires.len, length-map c.args.back.now (λ r. r.items)) in
    rw c.deref.ensures.value (All-row_at c.args.back.now (get_or c.args.component.now c.loop-x.x-index 0) (length c.args.numbers.now) c.index-back-x.result c.requires.closed below c.index-back-x.is n_is)
