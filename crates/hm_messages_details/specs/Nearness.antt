-- How near two names are.
use Rattle.std.specs.Prelude.{◌≡◌, ◌+◌, ◌≤◌, ℕ, Bool, false, List, [], ◌∷◌, length}
use Rattle.std.specs.Int.{is_in_range}
use Rattle.std.specs.Str.{chars}
use Rattle.strsim.specs.Edits.{osa_table}

-- how many letters are put in, taken out or replaced, or change places with their neighbour, to make one text of the other (the optimal
-- string alignment distance)
abbrev pub edits : List ℕ → List ℕ → ℕ
edits xs ys = (osa_table (chars xs) (chars ys)).last_row (length (chars ys))

abbrev pub begins_capital : List ℕ → Bool
begins_capital [] = false
begins_capital (b ∷ bs) = is_in_range 65 90 b

-- one edit makes one name of the other, and both or none begin with a capital letter
pub record AreNear (x y : List ℕ) : Type 0 where
  pub apart : edits x y ≡ 1
  pub capital : begins_capital x ≡ begins_capital y

-- the second name begins with a capital letter, and the first one with the small letter of it. All else is the same (Report, section 1.4)
pub record IsSmallForm (x y : List ℕ) : Type 0 where
  pub capital : ℕ
  pub rest : List ℕ
  pub lowest : 65 ≤ capital
  pub highest : capital ≤ 90
  pub small_is : x ≡ (capital + 32) ∷ rest
  pub capital_is : y ≡ capital ∷ rest
