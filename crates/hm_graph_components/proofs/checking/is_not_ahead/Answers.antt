use Rattle.std.proofs.Common.{◌≤◌, get_or, arith, rules}
use Rattle.hm_graph_components.specs.Checks.{number_of}
use Rattle.hm_graph_components.proofs.ChecksSoFar.{All-step, All-end}
use Rattle.hm_graph_components.proofs.checking.is_not_ahead.Goals as goal

pub loop-y-preserved : goal.loop-y-preserved
loop-y-preserved c =
    let le : number_of c.args.numbers.now (get_or c.args.row.now c.loop-y.y-index 0) ≤ c.args.number = search rules in
    All-step (λ y. number_of c.args.numbers.now y ≤ c.args.number) c.args.row.now c.loop-y.y-index c.loop-y-test.true c.loop-y.invariant le

pub returns : goal.returns
returns c = λ _. All-end (λ y. number_of c.args.numbers.now y ≤ c.args.number) c.args.row.now c.loop-y.y-index (omega arith) c.loop-y.invariant
