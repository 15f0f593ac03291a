use Rattle.std.proofs.Common.{◌≡◌, ◌<◌, ◌≤◌, ◌⊎◌, inl, inr, get_or}
use Rattle.hm_infer_results.proofs.FaultyGroups.{first_member, first_of_all}
use Rattle.hm_infer_results.proofs.finding_faults.first_place.Goals.{then-member-place, else-member-place}
use Rattle.hm_infer_results.proofs.finding_faults.first_place.Goals as goal

pub members-preserved : goal.members-preserved
members-preserved c =
    let which : (((get_or c.args.members.now c.members.member-index (record { place = 0; node = 0 })).place < c.members.place) × (c.if-member-place.place ≡ (get_or c.args.members.now c.members.member-index (record { place = 0; node = 0 })).place)) ⊎ ((c.members.place ≤ (get_or c.args.members.now c.members.member-index (record { place = 0; node = 0 })).place) × (c.if-member-place.place ≡ c.members.place)) = elim c.if-member-place.branch [
      | then-member-place w ↦ inl (w.if-member-place.true, w.place-is)
      | else-member-place w ↦ inr (w.if-member-place.false, w.place-is)
    ] in
    let h = first_member c.args.members.now c.members.member-index (record { place = 0; node = 0 }) c.members.place c.if-member-place.place c.members-test.true c.members.invariant.of_member c.members.invariant.least which in
    record { of_member = h.0; least = h.1 }

pub returns : goal.returns
returns c = (c.members.invariant.of_member, first_of_all c.args.members.now c.members.member-index c.members.place c.members-test.false c.members.invariant.least)
