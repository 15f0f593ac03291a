-- The open brackets after some symbols.
use Rattle.std.specs.Prelude.{◌≡◌, ℕ, ◌+◌, ◌-◌, ◌<◌, Bool, true, false, List, [], ◌∷◌, length, drop, slice_index_or, if◌then◌else◌}
use Rattle.hm_parse_grammar.specs.declared.symbol.Symbol.{Symbol}
use Rattle.hm_parse_grammar.specs.declared.symbol.Symbol.TheVariants.{Open, OpenSquare, LeftBrace, Close, CloseSquare, RightBrace, End}

abbrev pub opens : Symbol → Bool
opens Open = true
opens OpenSquare = true
opens LeftBrace = true
opens _ = false

abbrev pub closes : Symbol → Bool
closes Close = true
closes CloseSquare = true
closes RightBrace = true
closes _ = false

-- the number of brackets before these symbols that they would close
abbrev pub unmatched : List Symbol → ℕ
unmatched [] = 0
unmatched (s ∷ ss) = if closes s then unmatched ss + 1 else (if opens s then unmatched ss - 1 else unmatched ss)

-- the symbol with this number, from 0, is an opening bracket, and the symbols after it don't close it
pub record IsOpen (symbols : List Symbol) (k : ℕ) : Type 0 where
  pub within : k < length symbols
  pub opening : opens (slice_index_or symbols k End) ≡ true
  pub free : unmatched (drop (k + 1) symbols) ≡ 0

-- it is open, and no bracket after it is
pub record IsInnermost (symbols : List Symbol) (k : ℕ) : Type 0 where
  pub opened : IsOpen symbols k
  pub last : (j : ℕ) → k < j → IsOpen symbols j → ⊥

abbrev pub IsNoneOpen : List Symbol → Type 0
IsNoneOpen symbols = (j : ℕ) → IsOpen symbols j → ⊥
