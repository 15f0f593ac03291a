use Rattle.hm_service_sources.specs.Steps.{AreEdgesBelow}
use Rattle.hm_service_sources.proofs.left_out.source_graph.Given as goal

abbrev pub invariant-modules : goal.invariant-modules
invariant-modules l = AreEdgesBelow l.located l.sources l.number l.graph
