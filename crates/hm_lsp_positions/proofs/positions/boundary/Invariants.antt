use Rattle.std.proofs.Common.{◌≡◌, ◌<◌, ◌≤◌, ℕ, true}
use Rattle.hm_lsp_positions.specs.Positions.{is_inside}
use Rattle.hm_lsp_positions.proofs.positions.boundary.Given as goal

abbrev pub invariant-places : goal.invariant-places
invariant-places l = (l.place ≤ l.most) × ((j : ℕ) → l.place < j → j ≤ l.most → is_inside l.line j ≡ true)

abbrev pub decreases-places : goal.decreases-places
decreases-places l = l.place
