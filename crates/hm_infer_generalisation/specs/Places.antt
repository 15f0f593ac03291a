-- Different numbers in a list, with a table of the places of those after the first few. No public clause names these.
use Rattle.std.specs.Prelude.{◌≡◌, ℕ, true, cond, List, [], ◌∷◌, ◌++◌, take, None, nat_eq}
use Rattle.std.specs.HashMap.{HashMap, get}
use Rattle.hm_types.specs.Numbers.{place_among}
use Rattle.hm_types.specs.Schemes.{is_among, place}

-- how many numbers need no place in the table
abbrev pub few : ℕ
few = 8

-- the number is in the list, and this is its place
pub record IsPlaceOf (n : ℕ) (xs : List ℕ) (p : ℕ) : Type 0 where
  pub here : is_among n xs ≡ true
  pub is : p ≡ place n xs

-- the table has the place of each number that isn't among the first few
pub record AreNoted {S : Type 0} (xs : List ℕ) (table : HashMap ℕ ℕ S) : Type 0 where
  pub at : (n : ℕ) → get nat_eq table n ≡ cond (is_among n (take few xs)) None (place_among n xs)

-- the list with one more number, unless it has that already
abbrev pub with_number : ℕ → List ℕ → List ℕ
with_number n xs = cond (is_among n xs) xs (xs ++ n ∷ [])
