-- Which symbols a query finds (Language Server Protocol 3.17, "Workspace Symbols Request").
use Rattle.std.specs.Prelude.{ℕ, Bool, true, false, List, [], ◌∷◌, if◌then◌else◌}
use Rattle.std.specs.Char.{eq_ignore_ascii_case}

-- the letters of the query are in the name in their order, whatever their case
abbrev pub is_match : List ℕ → List ℕ → Bool
is_match [] name = true
is_match (q ∷ query) [] = false
is_match (q ∷ query) (x ∷ name) = if eq_ignore_ascii_case x q then is_match query name else is_match (q ∷ query) name
