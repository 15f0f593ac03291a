-- The starts of the first lines of a text. No public clause names these.
use Rattle.std.specs.Prelude.{◌≡◌, ℕ, ◌-◌, ◌<◌, ◌≤◌, ◌&&◌, nat_le, nat_lt, Bool, List, Some, length, slice_index, slice_index_or}
use Rattle.hm_lsp_positions.specs.Lines.{line_start}

-- the first of these is that of line 0, and so on, in ascending order
pub record AreStarts (text starts : List ℕ) : Type 0 where
  pub some : 0 < length starts
  pub each : (i : ℕ) → i < length starts → line_start i text ≡ Some (slice_index_or starts i 0)
  pub within : (i : ℕ) → i < length starts → slice_index_or starts i 0 ≤ length text
  pub rising : (i j : ℕ) → i ≤ j → j < length starts → slice_index_or starts i 0 ≤ slice_index_or starts j 0

-- the last one isn't before the place, and isn't the first one
abbrev pub is_past : List ℕ → ℕ → Bool
is_past starts from = nat_lt 1 (length starts) && nat_le from (slice_index starts (length starts - 1))
