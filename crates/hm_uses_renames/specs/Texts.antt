-- A text with a new name in place of references (Language Server Protocol 3.17, "Rename Request").
use Rattle.std.specs.Prelude.{◌≡◌, ◌+◌, ◌≤◌, ◌++◌, ℕ, List, [], ◌∷◌, length, take, drop, slice_range}
use Rattle.hm_lex.specs.Cut.{place_after}
use Rattle.hm_uses_references.specs.declared.finding.Reference.{Reference}

-- the name of the reference begins after so many bytes of the text
pub record IsAt (text : List ℕ) (r : Reference) (from : ℕ) : Type 0 where
  pub place : place_after (take from text) ≡ record { line = r.line; column = r.column }
  pub within : from + r.length ≤ length text

-- the text from byte number `at` on, with the new name in place of each of these references. They are in order, and don't overlap
abbrev pub IsReplacedFrom : List ℕ → List ℕ → ℕ → List Reference → List ℕ → Type 0
IsReplacedFrom text new at [] made = made ≡ drop at text
IsReplacedFrom text new at (r ∷ rs) made =
    (from : ℕ) × ((rest : List ℕ) × ((at ≤ from) × (IsAt text r from × (IsReplacedFrom text new (from + r.length) rs rest × (made ≡ slice_range text at from ++ (new ++ rest))))))

-- the text with the new name in place of each of these references
abbrev pub IsReplaced : List ℕ → List ℕ → List Reference → List ℕ → Type 0
IsReplaced text new references made = IsReplacedFrom text new 0 references made
