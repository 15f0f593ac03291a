-- The texts of a held set.
use Rattle.std.specs.Prelude.{◌≡◌, ℕ, ◌<◌, ◌↔◌, List, [], Contains, length, map, slice_index_or}
use Rattle.std.specs.List.Sorted.{IsStrictlyIncreasing}
use Rattle.hm_graph_components.specs.Marks.{IsMarked}
use Rattle.hm_service_sources.specs.declared.held.HeldSource.{HeldSource}

-- the texts of the sources as they are now
abbrev pub texts_of : List HeldSource → List (List ℕ)
texts_of held = map (λ h. h.text.items) held

-- the texts that stand for the sources
abbrev pub standing_of : List HeldSource → List (List ℕ)
standing_of held = map (λ h. h.standing.items) held

-- the texts with these numbers
abbrev pub texts_at : List (List ℕ) → List ℕ → List (List ℕ)
texts_at texts numbers = map (λ n. slice_index_or texts n []) numbers

-- the numbers of the sources that can't be read as they are now, ascending
pub record AreUnread (held : List HeldSource) (numbers : List ℕ) : Type 0 where
  pub ascending : IsStrictlyIncreasing numbers
  pub members : (n : ℕ) → Contains numbers n ↔ ((n < length held) × ¬ (IsMarked (map (λ h. h.is_read) held) n))

-- all numbers below n, in order
pub record AreAll (n : ℕ) (numbers : List ℕ) : Type 0 where
  pub as_many : length numbers ≡ n
  pub each : (k : ℕ) → k < n → slice_index_or numbers k 0 ≡ k
