use Rattle.std.proofs.Common.{ap, map}
use Rattle.hm_service_candidates.specs.Ranges.{tried_of}
use Rattle.hm_service_offers.proofs.Shown.{fixes_more}
use Rattle.hm_service_offers.proofs.trying.fixes_among.Goals as goal

pub candidates-preserved : goal.candidates-preserved
candidates-preserved g c =
    let old = map tried_of c.candidates.found.items in
    let new = map tried_of c.add.new.found.items in
    fixes_more c.args.set.now c.args.source c.args.candidates.now c.candidates.candidate-index c.candidate-item.result old new c.in_ok-is_fix.is_fix c.candidates-test.true c.candidate-item.is c.candidates.invariant c.in_ok-is_fix.ensures
    c.in_ok-add.ensures.yes (λ clear. ap (map tried_of) (c.in_ok-add.ensures.none clear))
