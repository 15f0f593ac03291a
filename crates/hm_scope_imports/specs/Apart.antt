-- Interfaces of different modules, and the places of their names.
use Rattle.std.specs.Prelude.{◌≡◌, ◌<◌, ◌≤◌, ℕ, List, Contains, get_or}
use Rattle.std.specs.Borrow.{Bor}
use Rattle.hm_types.specs.Interfaces.{Exports as Interface}

-- two of them with one name are one
abbrev pub AreNamedApart : List Interface → Type 0
AreNamedApart fs = (f g : Interface) → Contains fs f → Contains fs g → f.name ≡ g.name → f ≡ g

-- the one at this place has the name
abbrev pub IsNamedAt : List (Bor Interface) → ℕ → List ℕ → Type 0
IsNamedAt fs i name = (f : Bor Interface) → f ≡ get_or fs i f → f.now.name ≡ name

-- none from the first place on and before the second has the name
abbrev pub AreNotNamed : List (Bor Interface) → ℕ → ℕ → List ℕ → Type 0
AreNotNamed fs from to name = (f : Bor Interface) (i : ℕ) → from ≤ i → i < to → f ≡ get_or fs i f → ¬ (f.now.name ≡ name)
