-- Runs of symbols and reserved operators (Haskell 98 Report, section 2.4).
use Rattle.std.specs.Prelude.{ℕ, ◌≤◌, ◌==◌, Bool, List, [], ◌∷◌, length, IsTrue, codes}
use Rattle.std.specs.List.{list_any}
use Rattle.std.specs.Str.{bytes_eq}
use Rattle.hm_lex.specs.Bytes.{is_symbol}
use Rattle.hm_lex.specs.Runs.{IsRunOf}

abbrev pub is_dash : ℕ → Bool
is_dash b = b == 45

-- two or more dashes, and no other byte
abbrev pub IsDashes : List ℕ → Type 0
IsDashes text = IsRunOf is_dash text × (2 ≤ length text)

abbrev pub operators : List (List ℕ)
operators =
    codes ".." ∷ codes ":" ∷ codes "::" ∷ codes "=" ∷ codes "\\" ∷ codes "|" ∷ codes "<-" ∷ codes "->" ∷ codes "@" ∷ codes "~" ∷ codes "=>" ∷ []

unfoldable pub is_operator : List ℕ → Bool
is_operator text = list_any (λ operator. bytes_eq operator text) operators

abbrev pub IsOperator : List ℕ → Type 0
IsOperator text = IsRunOf is_symbol text × IsTrue (is_operator text)
