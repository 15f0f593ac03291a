-- The header of a frame (Language Server Protocol 3.17, "Header Part"). Its fields are those of HTTP (RFC 9110, section 5, and RFC 9112, section 2.2).
use Rattle.std.specs.Prelude.{ℕ, ◌-◌, ◌^◌, ◌==◌, nat_lt, Bool, ◌&&◌, ◌||◌, List, [], ◌∷◌, Option, Some, None, codes, drop, length, map, option_to_list, slice_index, take, if◌then◌else◌}
use Rattle.std.specs.Char.{is_ascii_digit, is_ascii_whitespace, to_ascii_lowercase}
use Rattle.std.specs.List.{before_first, flat_map, list_all, prefix_len, range_with_len, suffix_len}
use Rattle.std.specs.Str.{bytes_eq}
use Rattle.std.specs.Str.Parse.{digits_value}

-- the bytes begin with the name of the length and a colon, in any case of letters
abbrev pub is_length : List ℕ → Bool
is_length bytes = bytes_eq (map to_ascii_lowercase (take 15 bytes)) (codes "content-length:")

-- the bytes up to the end of their first line
abbrev pub first_line : List ℕ → List ℕ
first_line bytes = before_first (λ b. b == 10) bytes

-- the text without white space at its start, and at its end
abbrev pub trimmed_start : List ℕ → List ℕ
trimmed_start text = drop (prefix_len is_ascii_whitespace text) text

abbrev pub trimmed_end : List ℕ → List ℕ
trimmed_end text = take (length text - suffix_len is_ascii_whitespace text) text

-- the value of the field that the bytes begin with
abbrev pub value_of : List ℕ → List ℕ
value_of bytes = trimmed_end (trimmed_start (first_line (drop 15 bytes)))

-- a line begins at this place of the header
abbrev pub is_start : List ℕ → ℕ → Bool
is_start header at = at == 0 || slice_index header (at - 1) == 10

-- the value of the field `Content-Length` that begins at this place of the header, if one does
abbrev pub value_at : List ℕ → ℕ → Option (List ℕ)
value_at header at = if is_start header at && is_length (drop at header) then Some (value_of (drop at header)) else None

-- the values of all these fields, in order
abbrev pub values_of : List ℕ → List (List ℕ)
values_of header = flat_map (λ at. option_to_list (value_at header at)) (range_with_len 0 (length header))

-- the value is a decimal number below 2^64
abbrev pub is_number : List ℕ → Bool
is_number value = nat_lt 0 (length value) && (list_all is_ascii_digit value && nat_lt (digits_value 10 value) (2 ^ 64))

abbrev pub number_of : List ℕ → Option ℕ
number_of value = if is_number value then Some (digits_value 10 value) else None

-- the number, if there is just one value
abbrev pub only_number : List (List ℕ) → Option ℕ
only_number [] = None
only_number (value ∷ []) = number_of value
only_number (value ∷ next ∷ more) = None

-- the length that a header gives: that of its one field `Content-Length`
abbrev pub length_of : List ℕ → Option ℕ
length_of header = only_number (values_of header)
