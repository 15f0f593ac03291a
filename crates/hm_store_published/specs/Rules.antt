-- The rule of the list of all publications, and the table that readers read. No contract of the store or above it names these.
use Rattle.std.specs.Prelude.{ℕ, ◌≡◌, ◌==◌, ◌+◌, ◌≤◌, ◌^◌, true, List, [], ◌∷◌, ◌++◌, length, MatchBool, Option, Some, None, slice_index_or}
use Rattle.logbook.specs.Pages.{Cell, Step, View, Book, Named}
use Rattle.hm_store_published.specs.declared.publication.Publication.{Publication}
use Rattle.hm_types.specs.Interfaces.{Exports as Interface}
use Rattle.hm_store_published.specs.Publications.{published_interface, interface_in, entries_of}

-- the first word is the length of the list. A book has two words; here the second is always 0. The type of fronts guarantees that the list is lawful
-- for the modules of its build, because the list is made before it has a name
pub record IsKept (cells : List Cell) (log : List Publication) : Type 0 where
  pub words : cells ≡ (length log, true) ∷ (0, true) ∷ []

abbrev pub head_of : Book → Named
head_of b = record { tracked = true; key = 0; book = b }

-- the publication was added to a list that had been seen whole; or the list was longer, and was seen
abbrev pub Adds : Step Publication → View Publication ℕ → ℕ → View Publication ℕ → Type 0
Adds s v found w = MatchBool (found == s.old) (w.0 ≡ v.0 ++ s.ask ∷ []) (length w.0 ≡ found)

-- the table has the interface of each published module, and the number of journal entries up to the last publication
pub record Shows (ps : List Publication) (interfaces : List (Option Interface)) (entries : ℕ) : Type 0 where
  pub interfaces_are : (m : ℕ) → slice_index_or interfaces m None ≡ interface_in ps m
  pub entries_are : entries ≡ entries_of ps
  pub few : entries ≤ 2 ^ 62

-- the list ends with a publication of module m with this interface, at the last of this number of entries
pub record EndsWith (ps : List Publication) (m : ℕ) (f : Interface) (entries : ℕ) : Type 0 where
  pub before : List Publication
  pub last : Publication
  pub is : ps ≡ before ++ last ∷ []
  pub number : last.number ≡ m
  pub interface : published_interface last ≡ Some f
  pub place : last.place + 1 ≡ entries
  pub few : entries ≤ 2 ^ 62
