use Rattle.std.proofs.Common.{◌≡◌, ◌<◌, arith, length, subst, sym}
use Rattle.std.proofs.lemmas.List.{length-map}
use Rattle.hm_graph_components.specs.Digraph.{lists}
use Rattle.hm_graph.specs.Outline.{outline}
use Rattle.hm_service_sources.specs.LeftOut.{outlines_of}
use Rattle.hm_service_sources.specs.Steps.{AreWayMarks}
use Rattle.hm_service_sources.proofs.LeftOutMarks.{recursive_is, rows_closed}
use Rattle.hm_service_sources.proofs.Marked.{way_more}
use Rattle.hm_service_sources.proofs.left_out.way_marks.Goals as goal

pub recursive_marks-requires : goal.recursive_marks-requires
recursive_marks-requires c = rows_closed (outlines_of c.args.located.now) (length c.args.located.now) (lists c.args.rows.now) (sym (length-map c.args.located.now (λ l. outline l.header))) c.requires.rows

pub is_in_the_way-requires-clause-recursive : goal.is_in_the_way-requires-clause-recursive
is_in_the_way-requires-clause-recursive c =
    let modules = outlines_of c.args.located.now in
    let below : c.modules.number < length (lists c.args.rows.now) = omega (arith, c.modules-test.true, c.requires.rows.as_many) in
    recursive_is modules (length c.args.located.now) (lists c.args.rows.now) (sym (length-map c.args.located.now (λ l. outline l.header))) c.requires.rows c.as_slice.result.now c.modules.number
    (rw c.as_slice.ensures.value (c.in_ok-recursive.ensures.marks c.modules.number below))

pub modules-preserved : goal.modules-preserved
modules-preserved c =
    rw c.in_ok-push.ensures.items (way_more (outlines_of c.args.located.now) c.modules.number c.modules.marks.items c.is_in_the_way.result c.modules.invariant c.is_in_the_way.ensures)

pub returns : goal.returns
returns c =
    let last : c.modules.number ≡ length c.args.located.now = omega (arith, c.modules-test.false, c.modules.auto.number-end) in
    subst (λ n. AreWayMarks (outlines_of c.args.located.now) n c.modules.marks.items) last c.modules.invariant
