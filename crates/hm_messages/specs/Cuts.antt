-- Long texts as a reader sees them: their first and their last bytes.
use Rattle.std.specs.Prelude.{ℕ, ◌-◌, List, ◌++◌, codes, drop, length, nat_le, slice_index, take, if◌then◌else◌}
use Rattle.hm_messages_excerpts.specs.Excerpts.{continues}

-- the number of bytes that are shown at the front of a longer text, and at its end
abbrev pub most_shown : ℕ
most_shown = 500

-- place n, or one at most three bytes before it, at which no character of the text is cut
abbrev pub whole_at : List ℕ → ℕ → ℕ
whole_at text n =
    if continues (slice_index text n) then
    (if continues (slice_index text (n - 1)) then (if continues (slice_index text (n - 2)) then n - 3 else n - 2) else n - 1)
    else n

abbrev pub cut_text : List ℕ → List ℕ
cut_text text = take (whole_at text most_shown) text ++ codes "..." ++ drop (whole_at text (length text - most_shown)) text

-- a text of up to twice as many bytes is shown whole
unfoldable pub shortened : List ℕ → List ℕ
shortened text = if nat_le (length text) 1000 then text else cut_text text
