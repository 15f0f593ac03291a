-- Resolved names (Report 5.5.1): a local binding, by its text, which means the innermost one with that text; or an entity.
-- Each pattern binding has a name too: its module and its number there. No source can mention it.
-- Why: docs/DECISIONS.md, "Names".
use Rattle.std.specs.Prelude.{◌≡◌, ℕ, List, [], ◌∷◌, ◌⊎◌}
use Rattle.hm_types.specs.declared.Entity.{Entity}

pub data Identifier : Type 0 where
  local : List ℕ → Identifier
  global : Entity → Identifier
  binding : List ℕ → ℕ → Identifier

-- x is in the list
abbrev pub IsOneOf : {X : Type 0} → X → List X → Type 0
IsOneOf x [] = ⊥
IsOneOf x (y ∷ ys) = (x ≡ y) ⊎ IsOneOf x ys

-- no name is twice in the list
abbrev pub IsDistinct : List Identifier → Type 0
IsDistinct [] = Unit {0}
IsDistinct (x ∷ xs) = ¬ (IsOneOf x xs) × IsDistinct xs
