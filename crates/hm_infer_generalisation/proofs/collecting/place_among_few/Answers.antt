use Rattle.std.proofs.Common.{◌<◌, length, arith}
use Rattle.hm_infer_generalisation.proofs.Placed.{found_here, none_more, none_of_few}
use Rattle.hm_infer_generalisation.proofs.collecting.place_among_few.Goals as goal

pub returns-then-numbers-place : goal.returns-then-numbers-place
returns-then-numbers-place c =
    let inside : c.numbers.place < length c.args.numbers.now = omega (arith, c.numbers-test.true, c.min-count.ensures) in
    found_here c.args.n c.args.numbers.now c.numbers.place inside c.numbers.invariant c.if-numbers-place.true

pub numbers-preserved : goal.numbers-preserved
numbers-preserved c =
    let inside : c.numbers.place < length c.args.numbers.now = omega (arith, c.numbers-test.true, c.min-count.ensures) in
    none_more c.args.n c.args.numbers.now c.numbers.place inside c.numbers.invariant c.if-numbers-place.false

pub returns : goal.returns
returns c = none_of_few c.args.n c.args.numbers.now c.numbers.place c.min-count.result c.min-count.ensures c.numbers.auto.place-end c.numbers-test.false c.numbers.invariant
