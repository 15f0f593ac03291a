-- The lists of dependents, computed from the imports. No public clause names these.
use Rattle.std.specs.Prelude.{◌==◌, ◌||◌, ℕ, zero, suc, Bool, false, cond, List, [], ◌∷◌, ◌++◌, length, slice_index_or}
use Rattle.std.specs.List.{list_any}

-- module k reaches module m through at most n imports
abbrev pub reaches_by : List (List ℕ) → ℕ → ℕ → ℕ → Bool
reaches_by is m zero k = false
reaches_by is m (suc n) k = list_any (λ j. (j == m) || reaches_by is m n j) (slice_index_or is k [])

-- the numbers below n that pass the test, ascending
abbrev pub below : (ℕ → Bool) → ℕ → List ℕ
below p zero = []
below p (suc n) = below p n ++ cond (p n) (n ∷ []) []

-- a list for each number below n
abbrev pub tabled : (ℕ → List ℕ) → ℕ → List (List ℕ)
tabled f zero = []
tabled f (suc n) = tabled f n ++ f n ∷ []

-- for each module, the modules that reach it. A shortest path has at most as many imports as there are modules
abbrev pub dependents_in : List (List ℕ) → List (List ℕ)
dependents_in is = tabled (λ m. below (reaches_by is m (length is)) (length is)) (length is)
