-- Meanings that a text binds. No public clause names these.
use Rattle.std.specs.Prelude.{◌≡◌, ℕ}
use Rattle.hm_uses.specs.Uses.{Sense, local_variable, type_variable}

abbrev pub IsSomeLocal : Sense → Type 0
IsSomeLocal t = (line : ℕ) × ((column : ℕ) × (t ≡ local_variable line column))

abbrev pub IsSomeTypeVariable : Sense → Type 0
IsSomeTypeVariable t = (line : ℕ) × ((column : ℕ) × (t ≡ type_variable line column))
