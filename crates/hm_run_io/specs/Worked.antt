-- Worked examples: what a run did with a reader and with a writer. The devices are the bytes that they have left.
use Rattle.std.specs.Prelude.{◌≡◌, ℕ, List, [], ◌∷◌, Some, true, Result, Ok, Err}
use Rattle.hm_run_io.specs.Reads.{ReadsAll}
use Rattle.hm_run_io.specs.Watching.{IsFresh, bytes_of, device_of, failures_of, flushes_of, given_of, has_ended_of, reads_of}
use Rattle.hm_run_io.specs.Writes.{WritesOnce}
use Rattle.hm_run_io.specs.declared.faults.RunFault.{RunFault}
use Rattle.hm_run_io.specs.declared.faults.RunFault.TheVariants as fault
use Rattle.hm_run_io.specs.declared.watched.Watched.{Watched}

-- the results of a run with a status, and of one with this fault
abbrev pub status : Result ℕ RunFault
status = Ok 0

abbrev pub of_fault : RunFault → Result ℕ RunFault
of_fault e = Err e

-- a reader of two bytes that was read to its end, by two reads
pub record AreTwoBytes (old new : Watched (List ℕ)) : Type 0 where
  pub fresh : IsFresh old
  pub had : device_of old ≡ 104 ∷ 109 ∷ []
  pub left : device_of new ≡ []
  pub given : given_of new ≡ 104 ∷ 109 ∷ []
  pub reads : reads_of new ≡ 2
  pub bytes : bytes_of new ≡ 2
  pub failures : failures_of new ≡ 0
  pub ended : has_ended_of new ≡ true

-- such a reader was read by a run with a status, or before a failed write. It doesn't make the run fail. A reader that wasn't read is one of a run with
-- too many workers, and not of one with a status
pub record ReadersRow : Type 0 where
  pub good : (old new : Watched (List ℕ)) → AreTwoBytes old new → ReadsAll Some (old ∷ []) (new ∷ []) status
  pub write : (old new : Watched (List ℕ)) → AreTwoBytes old new → ReadsAll Some (old ∷ []) (new ∷ []) (of_fault fault.Write)
  pub not_read : (old new : Watched (List ℕ)) → AreTwoBytes old new → ¬ (ReadsAll Some (old ∷ []) (new ∷ []) (of_fault fault.Read))
  pub unread : (old : Watched (List ℕ)) → IsFresh old → ReadsAll Some (old ∷ []) (old ∷ []) (of_fault fault.Workers)
  pub not_unread : (old new : Watched (List ℕ)) → AreTwoBytes old new → ¬ (ReadsAll Some (old ∷ []) (old ∷ []) status)

-- a writer that got nothing is one of a run that failed before, and not of one with a status. No writer is flushed twice
pub record WriterRow : Type 0 where
  pub nothing : (w : Watched (List ℕ)) → IsFresh w → WritesOnce w w (of_fault fault.Read)
  pub not_good : (w : Watched (List ℕ)) → IsFresh w → ¬ (WritesOnce w w status)
  pub not_twice : (old new : Watched (List ℕ)) → flushes_of new ≡ 2 → ¬ (WritesOnce old new (of_fault fault.Write))
