use Rattle.hm_service_sources.specs.LeftOut.{outlines_of}
use Rattle.hm_service_sources.proofs.Targets.{IsRowBelow}
use Rattle.hm_service_sources.proofs.imports.import_row.Given as goal

abbrev pub invariant-imports : goal.invariant-imports
invariant-imports l = IsRowBelow (outlines_of l.located) l.number l.import l.row.items
