use Rattle.std.proofs.Common.{◌≡◌, length, subst, arith}
use Rattle.hm_service_sources.specs.Steps.{AreEdgesBelow}
use Rattle.hm_service_sources.proofs.LeftOutMarks.{edges_begin, edges_more, row_is, row_within}
use Rattle.hm_service_sources.proofs.left_out.source_graph.Goals as goal

pub modules-init : goal.modules-init
modules-init c = edges_begin c.args.located.now c.args.sources c.in_ok-graph.graph c.in_ok-graph.ensures.nodes c.in_ok-graph.ensures.edges

pub add_row-requires-clause-row : goal.add_row-requires-clause-row
add_row-requires-clause-row c =
    row_within c.args.located.now c.modules.number c.as_slice.result.now
    (row_is c.args.located.now c.args.rows.now c.modules.number c.index-rows-number.result c.as_slice.result.now c.requires.rows c.modules-test.true c.index-rows-number.is c.as_slice.ensures.value)

pub modules-preserved : goal.modules-preserved
modules-preserved c =
    edges_more c.args.located.now c.args.sources c.modules.number c.as_slice.result.now c.modules.graph c.add_row.new.graph
    (row_is c.args.located.now c.args.rows.now c.modules.number c.index-rows-number.result c.as_slice.result.now c.requires.rows c.modules-test.true c.index-rows-number.is c.as_slice.ensures.value) c.modules.invariant c.in_ok-add_row.ensures

pub returns : goal.returns
returns c =
    let last : c.modules.number ≡ length c.args.located.now = omega (arith, c.modules-test.false, c.modules.auto.number-end) in
    subst (λ n. AreEdgesBelow c.args.located.now c.args.sources n c.modules.graph) last c.modules.invariant
