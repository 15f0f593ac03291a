use Rattle.std.proofs.Common.{◌≡◌, ◌<◌, [], length, All, get_or, rules}
use Rattle.hm_graph_components.specs.Digraph.{lists}
use Rattle.hm_graph_components.specs.Checks.{number_of}
use Rattle.hm_graph_components.proofs.Rows.{row_at}
use Rattle.hm_graph_components.proofs.ChecksSoFar.{Below-more}
use Rattle.hm_graph_components.proofs.checking.are_members.Goals as goal

pub loop-number-preserved : goal.loop-number-preserved
loop-number-preserved c =
    let members : All (λ x. (x < length c.args.numbers.now) × (number_of c.args.numbers.now x ≡ c.loop-number.number)) c.deref.result.now = search rules in
    Below-more (λ i. All (λ x. (x < length c.args.numbers.now) × (number_of c.args.numbers.now x ≡ i)) (get_or (lists c.args.groups.now) i [])) c.loop-number.number c.loop-number.invariant
    (rw (row_at c.args.groups.now c.loop-number.number c.index-groups-number.result c.loop-number-test.true c.index-groups-number.is, ← c.deref.ensures.value) members)
