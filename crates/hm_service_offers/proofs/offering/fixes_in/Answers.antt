use Rattle.std.proofs.Common.{◌≡◌, List, IfOk, ap, map, subst}
use Rattle.hm_service_candidates.specs.Ranges.{Tried, tried_of}
use Rattle.hm_service_candidates.specs.declared.ranges.Candidate.{Candidate}
use Rattle.hm_service_offers.specs.Offers.{AreFixes}
use Rattle.hm_service_offers.proofs.Shown.{fixes_of_run}
use Rattle.hm_service_offers.proofs.offering.fixes_in.Goals as goal

pub returns : goal.returns
returns g c =
    let set = c.args.set.now in
    let r = c.args.range.now in
    let candidates = map tried_of c.in_ok-candidates.candidates.items in
    fixes_of_run set r c.args.told.now candidates c.fixes_among.result c.in_ok-candidates.ensures
    (subst (λ (l : List Candidate). IfOk c.fixes_among.result (λ v. AreFixes set r.source (map tried_of l) (map tried_of v.items))) c.as_slice.ensures.value c.fixes_among.ensures)
