-- The text that is marked at a place: a name, a number or symbols (Haskell 98 Report, section 2.2), else one character.
use Rattle.std.specs.Prelude.{ℕ, ◌==◌, Bool, ◌||◌, List, [], ◌∷◌, if◌then◌else◌}
use Rattle.std.specs.List.{prefix_len}
use Rattle.bstr.specs.Utf8.{decoded}
use Rattle.hm_lex.specs.Bytes.{is_name_byte, is_symbol}

-- letters, digits, `_`, `'`, and the dots of a qualified name
abbrev pub is_of_word : ℕ → Bool
is_of_word b = is_name_byte b || (b == 46)

-- the number of bytes that are marked at the front of a text
abbrev pub marked : List ℕ → ℕ
marked [] = 0
marked (b ∷ bs) =
    if is_name_byte b then prefix_len is_of_word (b ∷ bs)
    else if is_symbol b then prefix_len is_symbol (b ∷ bs)
    else (decoded (b ∷ bs)).size
