-- The frames of a stream of bytes (Language Server Protocol 3.17, "Base Protocol"): a header, an empty line, and as many bytes as the header says.
--
-- The protocol doesn't say what to do with other bytes. Here a malformed header is passed over together with its empty line. If `Content-Length:` is
-- inside one of its lines, reading goes on there: lost bytes ran into a header. So the bytes of the next frame are never passed over.
use Rattle.std.specs.Prelude.{◌≡◌, ℕ, ◌+◌, ◌-◌, ◌==◌, nat_lt, nat_le, Bool, not, ◌&&◌, List, [], ◌∷◌, ◌++◌, Option, Some, None, codes, length, take, drop, slice_index, if◌then◌else◌}
use Rattle.std.specs.Fmt.{decimal}
use Rattle.memchr.specs.Find.{first_of, matches, rmatches}
use Rattle.hm_lsp_frames.specs.Headers.{length_of}

-- a frame: a body, one that is too long, or a malformed header
pub data Item : Type 0 where
  body : List ℕ → Item
  too_long : Item
  malformed : Item

abbrev pub empty_line : List ℕ
empty_line = codes "\r\n\r\n"

abbrev pub length_name : List ℕ
length_name = codes "Content-Length:"

-- the number of bytes in the longest header, and with its empty line
abbrev pub most_header : ℕ
most_header = 4096

abbrev pub most_read : ℕ
most_read = 4100

-- the number of bytes in the longest body
abbrev pub most_body : ℕ
most_body = 33554432

-- the last place of `Content-Length:`
abbrev pub last_length : List ℕ → Option ℕ
last_length bytes = first_of (rmatches bytes length_name (length bytes))

-- the place is inside a line
abbrev pub is_inside : List ℕ → ℕ → Bool
is_inside header k = nat_lt 0 k && not (slice_index header (k - 1) == 10)

-- the number of bytes that are passed over of a malformed header, by its last `Content-Length:`
abbrev pub passed_header : List ℕ → Option ℕ → ℕ
passed_header header None = length header + 4
passed_header header (Some k) = if is_inside header k then k else length header + 4

-- the same of a header that is too long: its last 14 bytes may be the beginning of `Content-Length:`
abbrev pub passed_long : Option ℕ → ℕ
passed_long None = most_header - 14
passed_long (Some k) = if k == 0 then most_header - 14 else k

abbrev pub kept : List ℕ → Item
kept bytes = if nat_le (length bytes) most_body then body bytes else too_long

-- the frame of a header with this length, if all its bytes are there, and the bytes after it
abbrev pub with_length : Option ℕ → List ℕ → List ℕ → Option (Item × List ℕ)
with_length None header stream = Some (malformed, drop (passed_header header (last_length header)) stream)
with_length (Some n) header stream =
    let rest = drop (length header + 4) stream in
    if nat_le n (length rest) then Some (kept (take n rest), drop n rest) else None

-- the same for a stream whose first empty line is at this place, or that has none
abbrev pub with_end : Option ℕ → List ℕ → Option (Item × List ℕ)
with_end None stream = if nat_le most_read (length stream) then Some (malformed, drop (passed_long (last_length (take most_header stream))) stream) else None
with_end (Some k) stream = with_length (length_of (take k stream)) (take k stream) stream

-- the place of the first empty line that may end a header
abbrev pub end_of : List ℕ → Option ℕ
end_of stream = first_of (matches (take most_read stream) empty_line 0)

-- the first frame of a stream and the bytes after it, or none if more bytes are needed
abbrev pub first_frame : List ℕ → Option (Item × List ℕ)
first_frame stream = with_end (end_of stream) stream

-- the stream is these frames, and then bytes that don't begin with a whole frame
pub data Reads : List ℕ → List Item → List ℕ → Type 0 where
  done : {stream : List ℕ} → first_frame stream ≡ None → Reads stream [] stream
  more : {stream rest end : List ℕ} {item : Item} {items : List Item} → first_frame stream ≡ Some (item, rest) → Reads rest items end → Reads stream (item ∷ items) end

-- a body as it is written
abbrev pub framed : List ℕ → List ℕ
framed bytes = codes "Content-Length: " ++ (decimal (length bytes) ++ (empty_line ++ bytes))
