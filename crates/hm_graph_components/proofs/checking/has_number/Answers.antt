use Rattle.std.proofs.Common.{◌≡◌, ◌<◌, length, get_or, arith, rules}
use Rattle.hm_graph_components.specs.Checks.{number_of}
use Rattle.hm_graph_components.proofs.ChecksSoFar.{All-step, All-end}
use Rattle.hm_graph_components.proofs.checking.has_number.Goals as goal

pub loop-x-preserved : goal.loop-x-preserved
loop-x-preserved c =
    let inside : get_or c.args.group.now c.loop-x.x-index 0 < length c.args.numbers.now = search rules in
    let is : number_of c.args.numbers.now (get_or c.args.group.now c.loop-x.x-index 0) ≡ c.args.number = search rules in
    All-step (λ x. (x < length c.args.numbers.now) × (number_of c.args.numbers.now x ≡ c.args.number)) c.args.group.now c.loop-x.x-index c.loop-x-test.true c.loop-x.invariant (inside, is)

pub returns : goal.returns
returns c = λ _.
    All-end (λ x. (x < length c.args.numbers.now) × (number_of c.args.numbers.now x ≡ c.args.number)) c.args.group.now c.loop-x.x-index (omega arith) c.loop-x.invariant
