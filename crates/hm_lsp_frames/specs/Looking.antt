-- What the reader finds in the bytes that it holds.
use Rattle.std.specs.Prelude.{◌≡◌, ℕ, ◌+◌, ◌-◌, ◌<◌, ◌≤◌, List, Some, None, drop, length, min, take}
use Rattle.hm_lsp_frames.specs.Frames.{body, malformed, first_frame, most_body}
use Rattle.hm_lsp_frames.specs.Pending.{IsPassing}
use Rattle.hm_lsp_frames.specs.declared.looking.Start.{Start}
use Rattle.hm_lsp_frames.specs.declared.looking.Start.TheVariants.{Nothing, Malformed, Body, TooLong}

pub record IsMalformedLook (held : List ℕ) (count : ℕ) : Type 0 where
  pub frame : first_frame held ≡ Some (malformed, drop count held)
  pub within : count ≤ length held
  pub some : 0 < count

pub record IsBodyLook (held : List ℕ) (start end : ℕ) : Type 0 where
  pub frame : first_frame held ≡ Some (body (take (end - start) (drop start held)), drop end held)
  pub ordered : start ≤ end
  pub within : end ≤ length held
  pub some : 0 < start

pub record IsLongLook (held : List ℕ) (count left : ℕ) : Type 0 where
  pub passing : IsPassing left (drop count held) held
  pub within : count ≤ length held
  pub some : 0 < count

abbrev pub IsLook : List ℕ → Start → Type 0
IsLook held Nothing = first_frame held ≡ None
IsLook held (Malformed count) = IsMalformedLook held count
IsLook held (Body start end) = IsBodyLook held start end
IsLook held (TooLong count left) = IsLongLook held count left

-- the same after a header with this length, of which and of whose empty line so many bytes are
abbrev pub IsLookAfter : List ℕ → ℕ → ℕ → Start → Type 0
IsLookAfter held start size Nothing = (size ≤ most_body) × (length held < start + size)
IsLookAfter held start size (Malformed count) = ⊥
IsLookAfter held start size (Body from to) = (size ≤ most_body) × (from ≡ start) × (to ≡ start + size) × (to ≤ length held)
IsLookAfter held start size (TooLong count left) = (most_body < size) × (count ≡ start + min size (length held - start)) × (left ≡ size - min size (length held - start))
