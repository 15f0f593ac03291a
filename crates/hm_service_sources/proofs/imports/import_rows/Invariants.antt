use Rattle.hm_graph_components.specs.Digraph.{lists}
use Rattle.hm_service_sources.specs.LeftOut.{outlines_of}
use Rattle.hm_service_sources.specs.Steps.{AreImportRows}
use Rattle.hm_service_sources.proofs.imports.import_rows.Given as goal

abbrev pub invariant-modules : goal.invariant-modules
invariant-modules l = AreImportRows (outlines_of l.located) l.number (lists l.rows.items)
