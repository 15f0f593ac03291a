use Rattle.std.proofs.Common.{◌≡◌, ◌<◌, ◌≤◌, arith, subst}
use Rattle.hm_service_sources.specs.HeldSets.{AreAll}
use Rattle.hm_service_sources.proofs.Numbers.{all_more}
use Rattle.hm_service_sources.proofs.left_out.all_numbers.Goals as goal

pub numbers-preserved : goal.numbers-preserved
numbers-preserved c = rw c.in_ok-push.ensures.items (all_more c.numbers.number c.numbers.numbers.items c.numbers.invariant)

pub returns : goal.returns
returns c =
    let last : c.numbers.number ≡ c.args.count = omega (arith, c.numbers-test.false, c.numbers.auto.number-end) in
    subst (λ n. AreAll n c.numbers.numbers.items) last c.numbers.invariant
