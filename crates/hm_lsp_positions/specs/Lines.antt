-- The lines of a text (Language Server Protocol 3.17, "Text Documents", `EOL`). A line ends with "\n", "\r\n" or "\r".
use Rattle.std.specs.Prelude.{ℕ, zero, suc, ◌+◌, ◌==◌, nat_lt, Bool, ◌||◌, ◌&&◌, List, Option, None, Some, length, drop, option_map, slice_index, if◌then◌else◌}
use Rattle.std.specs.List.{before_first, position_or_len}

abbrev pub is_line_end : ℕ → Bool
is_line_end b = b == 10 || b == 13

-- the first line of a text, without its end, and the number of its bytes
abbrev pub first_line : List ℕ → List ℕ
first_line text = before_first is_line_end text

abbrev pub line_length : List ℕ → ℕ
line_length text = position_or_len is_line_end text

-- the number of bytes of the first line with its end
abbrev pub whole_length : List ℕ → ℕ
whole_length text =
    let n = line_length text in
    if slice_index text n == 13 && slice_index text (n + 1) == 10 then n + 2 else n + 1

-- the number of bytes before the line with this number, counted from 0, if the text has so many lines
unfoldable pub line_start : ℕ → List ℕ → Option ℕ
line_start zero text = Some 0
line_start (suc n) text =
    if nat_lt (line_length text) (length text) then option_map (λ k. whole_length text + k) (line_start n (drop (whole_length text) text)) else None
