use Rattle.std.proofs.Common.{◌≡◌, length, rules}
use Rattle.hm_service_sources.proofs.Marked.{same_members}
use Rattle.hm_service_sources.proofs.left_out.checkable.Goals as goal

pub returns-clause-members : goal.returns-clause-members
returns-clause-members c =
    let marks = c.as_slice.result.now in
    let same : marks ≡ c.in_ok-marks.marks.items = c.as_slice.ensures.value in
    same_members c.args.located.now c.args.sources marks c.in_ok-part.part.items (rw same c.in_ok-marks.ensures.len) (rw same c.in_ok-marks.ensures.marks) c.in_ok-part.ensures.members
