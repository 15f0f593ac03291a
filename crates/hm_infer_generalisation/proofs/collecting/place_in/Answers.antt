use Rattle.std.proofs.Common.{length, refl, sym}
use Rattle.hm_infer_generalisation.proofs.Placed.{place_of_none, place_of_noted, place_of_absent}
use Rattle.hm_infer_generalisation.proofs.collecting.place_in.Goals as goal

pub returns-in-Some : goal.returns-in-Some
returns-in-Some c = λ t. c.in-Some.ensures.is

pub returns-then-count-le-FEW : goal.returns-then-count-le-FEW
returns-then-count-le-FEW c = λ t. place_of_none c.args.n (length c.args.numbers.now) c.args.numbers.now c.if-count-le-FEW.true c.in-None.ensures refl

pub returns-in-Some-get : goal.returns-in-Some-get
returns-in-Some-get c = λ t. place_of_noted c.args.n c.in-Some-get.place.now c.args.numbers.now c.args.places.now c.in-None.ensures (sym c.in-Some-get.ensures.value) t

pub returns-in-None-get : goal.returns-in-None-get
returns-in-None-get c = λ t. place_of_absent c.args.n (length c.args.numbers.now) c.args.numbers.now c.args.places.now c.in-None.ensures (sym c.in-None-get.ensures.value) refl t
