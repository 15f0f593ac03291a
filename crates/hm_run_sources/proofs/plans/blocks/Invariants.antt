use Rattle.std.proofs.Common.{◌≡◌, ◌<◌, ℕ, length, map, get_or, []}
use Rattle.hm_graph.specs.Outline.{outlines}
use Rattle.hm_graph.specs.Imports.{name_at}
use Rattle.hm_run_sources.specs.Plans.{Block, IsBlockOf}
use Rattle.hm_run_sources.specs.Views.{block_of}
use Rattle.hm_run_sources.proofs.plans.blocks.Given as goal

abbrev pub invariant-loop-m : goal.invariant-loop-m
invariant-loop-m l = (length (map block_of l.blocks.items) ≡ l.m)
    × ((k : ℕ) (d : Block) → k < length (map block_of l.blocks.items) → IsBlockOf (outlines l.headers) (name_at (outlines l.headers) k) (get_or l.plan k []) (get_or (map block_of l.blocks.items) k d))
