use Rattle.std.proofs.Common.{◌≡◌, map, take}
use Rattle.hm_graph.specs.Outline.{lent_outlines}
use Rattle.hm_run_sources.specs.Names.{module_outline}
use Rattle.hm_run_sources.proofs.sets.plan_of.Given as goal

abbrev pub invariant-loop-module : goal.invariant-loop-module
invariant-loop-module l = lent_outlines l.headers.items ≡ map module_outline (take l.module-index l.modules)
