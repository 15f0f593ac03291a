use Rattle.std.proofs.Common.{map, take}
use Rattle.std.specs.Arc.{arc_value}
use Rattle.hm_run_sources.specs.ModuleCounts.{AreCountedModules}
use Rattle.hm_build_earlier.proofs.reading.shared_modules.Given as goal

abbrev pub invariant-loop-index : goal.invariant-loop-index
invariant-loop-index l = AreCountedModules (map (λ s. s.items) (take l.index l.sources)) (map arc_value l.modules.items) l.counts.items
