-- Runs of bytes.
use Rattle.std.specs.Prelude.{ℕ, Bool, List, [], ◌∷◌, IsTrue, IsFalse}
use Rattle.std.specs.List.{AllByRecursion}

-- one or more bytes that pass the test, and no other bytes
abbrev pub IsRunOf : (ℕ → Bool) → List ℕ → Type 0
IsRunOf test [] = ⊥
IsRunOf test (b ∷ bs) = IsTrue (test b) × AllByRecursion (λ c. IsTrue (test c)) bs

-- the first byte of the text, if there is one, fails the test
abbrev pub FirstFails : (ℕ → Bool) → List ℕ → Type 0
FirstFails test [] = Unit {0}
FirstFails test (b ∷ bs) = IsFalse (test b)
