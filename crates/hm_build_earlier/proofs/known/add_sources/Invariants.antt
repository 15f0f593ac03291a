use Rattle.std.proofs.Common.{All, map, drop}
use Rattle.std.specs.Arc.{arc_value}
use Rattle.hm_build_earlier.specs.Known.{IsKnown}
use Rattle.hm_run_sources.specs.ModuleCounts.{AreCountedModules}
use Rattle.hm_build_earlier.proofs.known.add_sources.Given as goal

abbrev pub invariant-loop-index : goal.invariant-loop-index
invariant-loop-index l = All IsKnown l.known.items × AreCountedModules (map (λ s. s.items) (drop l.index l.earlier.texts.now)) (map arc_value l.rest) (drop l.index l.counts)
