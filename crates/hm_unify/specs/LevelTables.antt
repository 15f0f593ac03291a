-- The solver's tables of levels. No public clause names these.
use Rattle.std.specs.Prelude.{◌≡◌, ℕ, ◌<◌, Bool, true, false, ◌==◌, if◌then◌else◌, List, [], ◌∷◌, ◌↔◌, ◌⊎◌, length, slice_index_or}
use Rattle.hm_types.specs.Monotypes.{Leaf, var, rigid}
use Rattle.hm_unify.specs.Unifier.{Equation}
use Rattle.hm_unify.specs.Bindings.{is_bound}
use Rattle.hm_unify.specs.Levels.{IsOuter}
use Rattle.hm_unify.specs.declared.levels.Change.{Change}
use Rattle.hm_unify.specs.declared.levels.LevelTable.{LevelTable}
use Rattle.hm_unify.specs.declared.levels.Levels.{Levels}

-- the level of a number in a table. A number past the end has itself as its level
abbrev pub level_in : List ℕ → ℕ → ℕ
level_in levels n = slice_index_or levels n n

-- the level of n before these changes, the oldest first, if it is `now` after them
abbrev pub level_before : List Change → ℕ → ℕ → ℕ
level_before [] n now = now
level_before (c ∷ cs) n now = if c.number == n then c.level else level_before cs n now

abbrev pub AreWithin : ℕ → List Change → Type 0
AreWithin k [] = Unit {0}
AreWithin k (c ∷ cs) = (c.number < k) × AreWithin k cs

abbrev pub table_level : LevelTable → ℕ → ℕ
table_level t n = level_in t.levels.items n

abbrev pub table_level_before : LevelTable → ℕ → ℕ
table_level_before t n = level_before t.changes.items n (table_level t n)

-- the table has the number of each change
abbrev pub TableIsWithin : LevelTable → Type 0
TableIsWithin t = AreWithin (length t.levels.items) t.changes.items

-- the levels before the changes are still known
pub record TableContinues (old new : LevelTable) : Type 0 where
  pub same : (n : ℕ) → table_level_before new n ≡ table_level_before old n
  pub within : TableIsWithin old → TableIsWithin new

-- the level of one number is now at most `level`
pub record TableLowers (n level : ℕ) (old new : LevelTable) : Type 0 where
  pub levels : (m k : ℕ) → (table_level new m < k) ↔ ((table_level old m < k) ⊎ (((n == m) ≡ true) × (level < k)))

abbrev pub level_of : Levels → Leaf → ℕ
level_of l (var n) = table_level l.variables n
level_of l (rigid n) = table_level l.rigids n

abbrev pub level_of_before : Levels → Leaf → ℕ
level_of_before l (var n) = table_level_before l.variables n
level_of_before l (rigid n) = table_level_before l.rigids n

pub record IsWithin (l : Levels) : Type 0 where
  pub variables : TableIsWithin l.variables
  pub rigids : TableIsWithin l.rigids

pub record Continues (old new : Levels) : Type 0 where
  pub variables : TableContinues old.variables new.variables
  pub rigids : TableContinues old.rigids new.rigids

-- the levels of these variables are now at most `level`
pub record Lowers (lowered : Leaf → Bool) (level : ℕ) (old new : Levels) : Type 0 where
  pub levels : (x : Leaf) (k : ℕ) → (level_of new x < k) ↔ ((level_of old x < k) ⊎ ((lowered x ≡ true) × (level < k)))

pub record HasNoChanges (l : Levels) : Type 0 where
  pub variables : l.variables.changes.items ≡ []
  pub rigids : l.rigids.changes.items ≡ []

-- a rigid variable, or one that no equation binds
abbrev pub IsUnbound : List Equation → Leaf → Type 0
IsUnbound es (var n) = is_bound n es ≡ false
IsUnbound es (rigid n) = Unit {0}

-- the level of each unbound variable is the least number of a variable in whose value it occurs
pub record IsLevelled (es : List Equation) (l : Levels) : Type 0 where
  pub exact : (x : Leaf) (k : ℕ) → IsUnbound es x → (level_of l x < k) ↔ IsOuter es k x
