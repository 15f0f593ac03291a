use Rattle.std.proofs.Common.{◌≡◌, map}
use Rattle.hm_graph.specs.Outline.{outlines}
use Rattle.hm_run_sources.specs.Names.{module_outline}
use Rattle.hm_run_sources.proofs.sets.headers_of.Given as goal

abbrev pub invariant-loop-module : goal.invariant-loop-module
invariant-loop-module l = outlines l.headers.items ≡ map module_outline l.yielded
