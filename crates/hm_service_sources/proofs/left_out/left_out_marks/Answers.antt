use Rattle.std.proofs.Common.{◌≡◌, ◌∙◌, length}
use Rattle.std.proofs.lemmas.List.{with_items_is}
use Rattle.std.specs.Vec.{with_items}
use Rattle.hm_service_sources.proofs.LeftOutMarks.{marks_are}
use Rattle.hm_service_sources.proofs.left_out.left_out_marks.Goals as goal

pub returns-clause-marks : goal.returns-clause-marks
returns-clause-marks c =
    let long : length c.spread.new.marks ≡ c.in_ok-marks.marks.len = c.in_ok-spread.ensures.nodes ∙ c.deref_mut.ensures.len in
    let back : (with_items c.in_ok-marks.marks c.spread.new.marks).items ≡ c.spread.new.marks = with_items_is c.in_ok-marks.marks c.spread.new.marks long in
    rw back
    (marks_are c.args.located.now c.in_ok-ways.ways.items c.in_ok-marks.marks.items c.args.sources c.in_ok-graph.graph c.in_ok-ways.ensures (rw c.as_slice-2.ensures.value at c.in_ok-marks.ensures) c.in_ok-graph.ensures
    c.spread.new.marks (rw c.deref_mut.ensures.value at c.in_ok-spread.ensures.marks))
