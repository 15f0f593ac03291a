use Rattle.std.proofs.Common.{ℕ, ◌<◌, ◌≤◌}
use Rattle.hm_graph_components.specs.Checks.{least_of}
use Rattle.hm_graph_components.proofs.checking.place_before.Given as goal

abbrev pub invariant-loop-place : goal.invariant-loop-place
invariant-loop-place l = (l.place ≤ l.start) × ((i : ℕ) → l.place ≤ i → i < l.start → least_of l.leasts i < least_of l.leasts l.start)

abbrev pub decreases-loop-place : goal.decreases-loop-place
decreases-loop-place l = l.place
