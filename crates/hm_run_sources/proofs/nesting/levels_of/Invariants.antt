use Rattle.std.proofs.Common.{◌≤◌, ◌-◌, length}
use Rattle.hm_run_sources.proofs.nesting.levels_of.Given as goal

abbrev pub invariant-loop-at : goal.invariant-loop-at
invariant-loop-at l = (l.at ≤ length l.source) × (l.open.depth ≤ 200)

abbrev pub decreases-loop-at : goal.decreases-loop-at
decreases-loop-at l = length l.source - l.at

abbrev pub invariant-loop : goal.invariant-loop
invariant-loop l = l.open.depth ≤ 200
