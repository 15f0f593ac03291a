use Rattle.hm_graph_components.specs.Digraph.{lists}
use Rattle.hm_graph_components.proofs.Rows.{lists-push}
use Rattle.hm_service_sources.specs.LeftOut.{outlines_of}
use Rattle.hm_service_sources.proofs.Targets.{rows_more}
use Rattle.hm_service_sources.proofs.imports.import_rows.Goals as goal

pub modules-preserved : goal.modules-preserved
modules-preserved c =
    rw (c.in_ok-push.ensures.items, lists-push c.modules.rows.items c.in_ok-row.row)
    (rows_more (outlines_of c.args.located.now) c.modules.number (lists c.modules.rows.items) c.in_ok-row.row.items c.modules.invariant c.in_ok-row.ensures)
