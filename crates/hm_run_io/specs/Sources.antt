-- The bytes that are read from readers and written to the writer.
use Rattle.std.specs.Prelude.{◌≡◌, ℕ, ◌<◌, List, [], ◌∷◌, ◌++◌, Option, Some, IfSome, drop, get_or, length, take}
use Rattle.std.specs.Io.KnownBytes.{Appends}
use Rattle.hm_run_io.specs.declared.watched.Watched.{Watched}
use Rattle.hm_run_io.specs.Watching.{HasReadFault}

-- the bytes of a reader that are kept: all, or enough to show that a source is too long
abbrev pub held_of : List ℕ → List ℕ
held_of bytes = take 1048577 bytes

-- the bytes that a reader has left after that
abbrev pub left_of : List ℕ → List ℕ
left_of bytes = drop 1048577 bytes

-- a reader that reports its bytes was read to its end or, if it has too many, just far enough to show that
abbrev pub IsReadUp : Option (List ℕ) → Option (List ℕ) → Type 0
IsReadUp old new = IfSome old (λ bytes. new ≡ Some (left_of bytes))

-- each reader was read like that
pub record AreReadUp {R : Type 0} (remaining : R → Option (List ℕ)) (olds news : List R) : Type 0 where
  pub as_many : length news ≡ length olds
  pub each : (k : ℕ) (d : R) → k < length olds → IsReadUp (remaining (get_or olds k d)) (remaining (get_or news k d))

-- reading stopped at this reader: those before it were read up, and those after it weren't read
pub record StopsAt {R : Type 0} (remaining : R → Option (List ℕ)) (olds news : List R) (place : ℕ) : Type 0 where
  pub as_many : length news ≡ length olds
  pub inside : place < length olds
  pub before : (k : ℕ) (d : R) → k < place → IsReadUp (remaining (get_or olds k d)) (remaining (get_or news k d))
  pub behind : (k : ℕ) (d : R) → place < k → k < length olds → get_or news k d ≡ get_or olds k d

-- reading stopped at some reader
pub record Stops {R : Type 0} (remaining : R → Option (List ℕ)) (olds news : List R) : Type 0 where
  pub place : ℕ
  pub stops : StopsAt remaining olds news place

-- reading stopped at a reader with a fault
pub record StopsAtFault {R : Type 0} (remaining : Watched R → Option (List ℕ)) (olds news : List (Watched R)) : Type 0 where
  pub place : ℕ
  pub stops : StopsAt remaining olds news place
  pub fault : (d : Watched R) → HasReadFault (get_or news place d)

-- each reader reports its bytes exactly, and these are the bytes
abbrev pub Tell : {R : Type 0} → (R → Option (List ℕ)) → List R → List (List ℕ) → Type 0
Tell remaining [] [] = Unit {0}
Tell remaining [] (s ∷ ss) = ⊥
Tell remaining (r ∷ rs) [] = ⊥
Tell remaining (r ∷ rs) (s ∷ ss) = (remaining r ≡ Some s) × Tell remaining rs ss

-- a prefix of the text was written, and no more
pub record WritesPrefix (old new : Option (List ℕ)) (text : List ℕ) : Type 0 where
  pub sent : List ℕ
  pub rest : List ℕ
  pub whole : text ≡ sent ++ rest
  pub appended : Appends old new sent
