use Rattle.std.proofs.Common.{◌≡◌, ◌∙◌, false, get_or, length, refl}
use Rattle.std.proofs.lemmas.List.{with_items_is}
use Rattle.std.specs.Vec.{with_items}
use Rattle.hm_service_sources.proofs.Marked.{marks_more, source_is}
use Rattle.hm_service_sources.proofs.left_out.own_marks.Goals as goal

pub modules-preserved : goal.modules-preserved
modules-preserved c =
    let located = c.args.located.now in
    let n = c.modules.number in
    let l = c.index-located-number.result in
    let long : length c.set.new.marks ≡ c.modules.marks.len = c.set.ensures.len ∙ c.deref_mut.ensures.len in
    let back : (with_items c.modules.marks c.set.new.marks).items ≡ c.set.new.marks = with_items_is c.modules.marks c.set.new.marks long in
    rw back
    (marks_more located c.args.ways.now c.args.sources n c.modules.marks.items c.set.new.marks (get_or located n l).source (get_or c.args.ways.now n false) c.modules.invariant
    (source_is located n l c.modules-test.true) refl (long ∙ c.modules.marks.ok.0) (rw c.deref_mut.ensures.value at c.set.ensures.marks))
