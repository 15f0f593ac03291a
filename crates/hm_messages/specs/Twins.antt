-- A module that has the name of a later one (Haskell 98 Report, chapter 5: each module of a program has a name of its own).
use Rattle.std.specs.Prelude.{◌≡◌, ℕ, List, Option, Some, None, All, Contains}
use Rattle.hm_run_sources.specs.declared.located.Located.{Located}

-- a module among these has this name, or none has
abbrev pub IsTwinOf : List ℕ → List Located → Option Located → Type 0
IsTwinOf name earlier (Some l) = Contains earlier l × (l.header.name.text ≡ name)
IsTwinOf name earlier None = All (λ l. ¬ (l.header.name.text ≡ name)) earlier
