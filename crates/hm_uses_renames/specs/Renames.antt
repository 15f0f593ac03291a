-- The names of a set before and after a rename. One name has a new spelling wherever it is written, and each name means what it meant.
use Rattle.std.specs.Prelude.{◌≡◌, ◌⊎◌, ◌↔◌, ℕ, ◌<◌, List, length, slice_index_or}
use Rattle.hm_names.specs.Entities.{named}
use Rattle.hm_uses.specs.Uses.{Sense, local_variable, type_variable, an_entity, a_module, a_prefix, unbound, ambiguous}
use Rattle.hm_uses_references.specs.SetNames.{IsSame, SetName}

-- the meaning of a name that isn't renamed: what is bound in a text may move with the text, and all else is the same
abbrev pub IsStill : Sense → Sense → Type 0
IsStill (local_variable l c) t = (line : ℕ) × ((column : ℕ) × (t ≡ local_variable line column))
IsStill (type_variable l c) t = (line : ℕ) × ((column : ℕ) × (t ≡ type_variable line column))
IsStill (an_entity e) t = t ≡ an_entity e
IsStill (a_module x) t = t ≡ a_module x
IsStill (a_prefix x) t = t ≡ a_prefix x
IsStill unbound t = t ≡ unbound
IsStill ambiguous t = t ≡ ambiguous

-- the meaning of a renamed name: an entity of the same module, with the new name
abbrev pub IsRenamedTo : List ℕ → Sense → Sense → Type 0
IsRenamedTo new (local_variable l c) t = (line : ℕ) × ((column : ℕ) × (t ≡ local_variable line column))
IsRenamedTo new (type_variable l c) t = (line : ℕ) × ((column : ℕ) × (t ≡ type_variable line column))
IsRenamedTo new (an_entity e) t = t ≡ an_entity (named e.«module» new)
IsRenamedTo new (a_module x) t = ⊥
IsRenamedTo new (a_prefix x) t = ⊥
IsRenamedTo new unbound t = ⊥
IsRenamedTo new ambiguous t = ⊥

-- the second name has the place in the second set that the first one has in the first
pub record StandsAs (m n : SetName) : Type 0 where
  pub number : n.number ≡ m.number
  pub source : n.source ≡ m.source
  pub kind : n.used.mention.kind ≡ m.used.mention.kind
  pub binds : n.used.mention.binds ≡ m.used.mention.binds
  pub qualifier : n.used.mention.name.qualifier ≡ m.used.mention.name.qualifier

-- the name has the new spelling
pub record IsRenamed (new : List ℕ) (m n : SetName) : Type 0 where
  pub stands : StandsAs m n
  pub spelled : n.used.mention.name.text ≡ new
  pub means : IsRenamedTo new m.used.sense n.used.sense

-- another name: after `hiding`, one that means nothing may have the place of a renamed one
pub record IsKept (new : List ℕ) (m n : SetName) : Type 0 where
  pub stands : StandsAs m n
  pub spelled : (n.used.mention.name.text ≡ m.used.mention.name.text) ⊎ (n.used.mention.name.text ≡ new)
  pub means : IsStill m.used.sense n.used.sense

-- m is renamed if it means the same as the name o
pub data Becomes (o : SetName) (new : List ℕ) (m n : SetName) : Type 0 where
  renamed : IsSame o m → IsRenamed new m n → Becomes o new m n
  kept : (IsSame o m → ⊥) → IsKept new m n → Becomes o new m n

-- these are the names of the set, in order, after the name o has got a new spelling wherever it is written. No two of them have become one, and none
-- has got apart: the same pairs of names mean the same
pub record AreRenamed (o : SetName) (new : List ℕ) (names later : List SetName) : Type 0 where
  pub as_many : length later ≡ length names
  pub each : (i : ℕ) (d : SetName) → i < length names → Becomes o new (slice_index_or names i d) (slice_index_or later i d)
  pub alike : (i j : ℕ) (d : SetName) → i < length names → j < length names →
      IsSame (slice_index_or names i d) (slice_index_or names j d) ↔ IsSame (slice_index_or later i d) (slice_index_or later j d)
