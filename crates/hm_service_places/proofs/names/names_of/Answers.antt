use Rattle.std.proofs.Common.{◌≡◌, get_or, rules}
use Rattle.std.specs.Fmt.{decimal}
use Rattle.hm_service_places.proofs.Named.{names_more}
use Rattle.hm_service_places.proofs.names.names_of.Goals as goal

pub loop-number-preserved : goal.loop-number-preserved
loop-number-preserved c =
    let v = c.into_bytes.result in
    let is : v.items ≡ decimal (get_or c.args.numbers.now c.loop-number.number-index 0) = search rules in
    rw c.in_ok-push.ensures.items (names_more c.loop-number.names.items c.args.numbers.now c.loop-number.number-index v c.loop-number-test.true c.loop-number.invariant is)
