use Rattle.hm_service_sources.specs.LeftOut.{outlines_of}
use Rattle.hm_service_sources.proofs.Targets.{none_missing}
use Rattle.hm_service_sources.proofs.imports.has_missing.Given as goal

abbrev pub invariant-imports : goal.invariant-imports
invariant-imports l = none_missing (outlines_of l.located) l.number l.import
