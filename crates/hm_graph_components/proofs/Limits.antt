-- the limits below which no node blocks a node
use Rattle.std.proofs.Common.{◌≡◌, ℕ, ◌<◌, ◌≤◌, Bool, false, List, length, All, inl, inr, Vec, Global, slice_index_or}
use Rattle.std.proofs.lemmas.Bool.{both_ways, cases_Bool}
use Rattle.hm_graph_components.specs.Marks.{AreLimits, IsHeld, PlacesGroup}

pub record HeldBelow (table : List (Vec Bool Global)) (placed : List Bool) (limits : List ℕ) (n : ℕ) : Type 0 where
  pub len : length limits ≡ length placed
  pub within : All (λ limit. limit ≤ length placed) limits
  pub are_limits : AreLimits table placed limits
  pub held : (z : ℕ) → z < n → IsHeld table placed z

-- more nodes are placed
pub AreLimits-placed : (table : List (Vec Bool Global)) (old new : List Bool) (limits group : List ℕ) → PlacesGroup group old new → AreLimits table old limits → AreLimits table new limits
AreLimits-placed table old new limits group places so_far x y x_below y_below blocks =
    so_far x y x_below y_below (record {
      ahead = blocks.ahead;
      not_back = blocks.not_back;
      unplaced = elim (cases_Bool (slice_index_or old y false)) [
        | inl marked ↦ absurd (both_ways (slice_index_or new y false) blocks.unplaced ((places.marks y).1 (inl marked)))
        | inr clear ↦ clear
      ];
    })
