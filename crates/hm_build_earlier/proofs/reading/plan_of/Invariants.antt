use Rattle.std.proofs.Common.{◌≡◌, map, take}
use Rattle.std.specs.Arc.{arc_value}
use Rattle.hm_graph.specs.Outline.{lent_outlines}
use Rattle.hm_run_sources.specs.Names.{module_outlines}
use Rattle.hm_build_earlier.proofs.reading.plan_of.Given as goal

abbrev pub invariant-loop-module : goal.invariant-loop-module
invariant-loop-module l = lent_outlines l.headers.items ≡ module_outlines (map arc_value (take l.module-index l.modules))
