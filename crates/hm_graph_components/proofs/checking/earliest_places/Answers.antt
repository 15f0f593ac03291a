use Rattle.std.proofs.Common.{◌≡◌, ◌<◌, ◌∙◌, length, get_or, arith}
use Rattle.std.proofs.lemmas.List.{length-map, get_or_default}
use Rattle.hm_graph_components.specs.Digraph.{lists}
use Rattle.hm_graph_components.specs.Checks.{number_of}
use Rattle.hm_graph_components.proofs.Rows.{row_at, All-row_at}
use Rattle.hm_graph_components.proofs.ChecksSoFar.{HeightsBelow-set, HasRaisedPlace}
use Rattle.hm_graph_components.proofs.checking.earliest_places.Goals as goal

pub raised_place-requires : goal.raised_place-requires
raised_place-requires c =
    let n_is : length c.args.numbers.now ≡ length (lists c.args.rows.now) = omega (arith, c.requires.len, length-map c.args.rows.now (λ r. r.items)) in
    rw c.deref.ensures.value
    (All-row_at c.args.rows.now c.loop-x.x (length c.args.numbers.now) c.index-rows-x.result c.requires.closed c.loop-x-test.true c.index-rows-x.is n_is)

pub loop-x-preserved : goal.loop-x-preserved
loop-x-preserved c =
    let x_below : c.loop-x.x < length (lists c.args.rows.now) = omega (arith, c.loop-x-test.true, length-map c.args.rows.now (λ r. r.items)) in
    let inside : c.loop-x.x < length c.args.numbers.now = omega (arith, c.loop-x-test.true, c.requires.len) in
    let has : HasRaisedPlace c.deref.result.now (number_of c.args.numbers.now c.loop-x.x) c.args.numbers.now c.index.result.now c.raised_place.result = c.raised_place.ensures in
    let height : c.index.result.now ≡ get_or c.loop-x.earliest.items (number_of c.args.numbers.now c.loop-x.x) 0 =
    c.index.ensures ∙ get_or_default c.loop-x.earliest.items (number_of c.args.numbers.now c.loop-x.x) c.index.result.now 0 (omega (arith, c.requires.numbers c.loop-x.x 0 inside, c.loop-x.invariant.len)) in
    HeightsBelow-set (lists c.args.rows.now) c.args.numbers.now c.loop-x.earliest.items c.args.count c.loop-x.x c.raised_place.result x_below
    (c.requires.numbers c.loop-x.x 0 inside) c.loop-x.invariant
    (rw (row_at c.args.rows.now c.loop-x.x c.index-rows-x.result c.loop-x-test.true c.index-rows-x.is, ← c.deref.ensures.value, ← height) has)
