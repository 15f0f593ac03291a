use Rattle.std.proofs.Common.{◌≡◌, map, take}
use Rattle.hm_graph.specs.Outline.{outlines}
use Rattle.hm_graph.specs.Imports.{name_at}
use Rattle.hm_run_sources.proofs.plans.ordered_names.Given as goal

abbrev pub invariant-loop-index : goal.invariant-loop-index
invariant-loop-index l = map (λ s. s.now) l.names.items ≡ map (name_at (outlines l.headers)) (take l.index-index l.row)
