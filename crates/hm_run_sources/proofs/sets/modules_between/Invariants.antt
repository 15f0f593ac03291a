use Rattle.std.proofs.Common.{map, take}
use Rattle.hm_run_sources.specs.Parts.{Follow}
use Rattle.hm_run_sources.proofs.sets.modules_between.Given as goal

abbrev pub invariant-loop-index : goal.invariant-loop-index
invariant-loop-index l = Follow (map (λ s. s.items) (take l.from l.sources)) (map (λ s. s.items) (take l.index l.sources)) l.modules.items l.counts.items
