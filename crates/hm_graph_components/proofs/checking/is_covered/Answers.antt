use Rattle.std.proofs.Common.{◌≡◌, ◌<◌, ◌∙◌, [], refl, length, Contains, get_or, arith, rules}
use Rattle.std.proofs.lemmas.List.{length-map, get_or_default}
use Rattle.hm_graph_components.specs.Digraph.{lists}
use Rattle.hm_graph_components.specs.Checks.{number_of}
use Rattle.hm_graph_components.proofs.Rows.{row_at}
use Rattle.hm_graph_components.proofs.ChecksSoFar.{Below-more}
use Rattle.hm_graph_components.proofs.checking.is_covered.Goals as goal

pub loop-x-preserved : goal.loop-x-preserved
loop-x-preserved c =
    let inside : get_or c.args.numbers.now c.loop-x.x 0 < length c.args.groups.now = search rules in
    let place_in : get_or c.args.places.now c.loop-x.x 0 < length c.as_slice-group.result.now = search rules in
    let is : get_or c.as_slice-group.result.now (get_or c.args.places.now c.loop-x.x 0) 0 ≡ c.loop-x.x = search rules in
    let stands : Contains c.as_slice-group.result.now c.loop-x.x =
    (get_or c.args.places.now c.loop-x.x 0, place_in, get_or_default c.as_slice-group.result.now (get_or c.args.places.now c.loop-x.x 0) c.loop-x.x 0 place_in ∙ is) in
    let row = row_at c.args.groups.now (get_or c.args.numbers.now c.loop-x.x 0) c.index-groups-numbers.result inside c.index-groups-numbers.is in
    Below-more (λ x. (number_of c.args.numbers.now x < length (lists c.args.groups.now)) × Contains (get_or (lists c.args.groups.now) (number_of c.args.numbers.now x) []) x) c.loop-x.x c.loop-x.invariant
    (omega (arith, inside, length-map c.args.groups.now (λ r. r.items)), rw (row, ← c.as_slice-group.ensures.value) stands)

pub returns : goal.returns
returns c = λ _. record {
  len = refl;
  below = λ x less. (c.loop-x.invariant x (omega arith)).0;
  stands = λ x less. (c.loop-x.invariant x (omega arith)).1;
}
