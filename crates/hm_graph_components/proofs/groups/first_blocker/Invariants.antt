use Rattle.std.proofs.Common.{ℕ, ◌<◌, ◌≤◌}
use Rattle.hm_graph_components.specs.Marks.{Blocks}
use Rattle.hm_graph_components.proofs.groups.first_blocker.Given as goal

abbrev pub invariant-loop-y : goal.invariant-loop-y
invariant-loop-y l = (y : ℕ) → l.start ≤ y → y < l.y → ¬ Blocks l.table l.placed l.x y
