-- The bytes of a stream that were read and aren't taken as frames yet.
use Rattle.std.specs.Prelude.{◌≡◌, ℕ, ◌+◌, ◌<◌, List, [], ◌++◌, Option, Some, None, drop, is_some, length, map, if◌then◌else◌}
use Rattle.hm_lsp_frames.specs.declared.frames.Frame.{Frame}
use Rattle.hm_lsp_frames.specs.declared.frames.Frame.TheVariants.{Body, TooLong, Malformed}
use Rattle.hm_lsp_frames.specs.declared.frames.Frames.{Frames}
use Rattle.hm_lsp_frames.specs.Frames.{Item, Reads, body, too_long, malformed, first_frame}

abbrev pub item_of : Frame → Item
item_of (Body bytes) = body bytes.items
item_of TooLong = too_long
item_of Malformed = malformed

-- the stream is the start of a body that is too long, of which these bytes are held, and so many are still missing
pub record IsPassing (left : ℕ) (held stream : List ℕ) : Type 0 where
  pub passed : List ℕ
  pub begun : 0 < length passed
  pub whole : stream ≡ passed ++ held
  pub frame : (missing after : List ℕ) → length missing ≡ left → first_frame (passed ++ (missing ++ after)) ≡ Some (too_long, after)
  pub unheld : 0 < left → held ≡ []

abbrev pub IsHeldBy : Option ℕ → List ℕ → List ℕ → Type 0
IsHeldBy None held stream = stream ≡ held
IsHeldBy (Some left) held stream = IsPassing left held stream

-- these are the bytes that were read and aren't taken yet. Of a body that is too long the reader holds only how many are missing
abbrev pub IsPending : Frames → List ℕ → Type 0
IsPending frames stream = IsHeldBy frames.passing (drop frames.start frames.bytes.items) stream

-- a frame was taken, with which the stream begins; or the stream doesn't begin with a whole frame
abbrev pub IsTaken : Option Frame → Frames → List ℕ → Type 0
IsTaken None frames stream = IsPending frames stream × (first_frame stream ≡ None)
IsTaken (Some frame) frames stream = (after : List ℕ) × (first_frame stream ≡ Some (item_of frame, after)) × IsPending frames after

-- the bytes that are held
abbrev pub held_by : Frames → List ℕ
held_by frames = drop frames.start frames.bytes.items

-- the number of bytes that are held, and one more inside a body that is too long
abbrev pub weight : Frames → ℕ
weight frames = length (held_by frames) + (if is_some frames.passing then 1 else 0)

-- the frames of the stream were added to the list, and the bytes after them are pending
abbrev pub TakesAll : Frames → List ℕ → List Frame → List Frame → Type 0
TakesAll frames stream taken all = (new : List Frame) × (rest : List ℕ) × (all ≡ taken ++ new) × Reads stream (map item_of new) rest × IsPending frames rest
