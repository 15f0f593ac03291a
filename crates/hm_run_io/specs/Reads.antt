-- What a run did with its readers.
use Rattle.std.specs.Prelude.{◌≡◌, ◌⊎◌, ℕ, List, Option, Result, All, Any, IsErrOf, OnOk}
use Rattle.hm_run_io.specs.Sources.{AreReadUp, Stops, StopsAtFault}
use Rattle.hm_run_io.specs.Watching.{device_of, failures_of, HasReadFault, IsReadWhole, IsReadWithin}
use Rattle.hm_run_io.specs.declared.faults.RunFault.{RunFault}
use Rattle.hm_run_io.specs.declared.faults.RunFault.TheVariants as fault
use Rattle.hm_run_io.specs.declared.watched.Watched.{Watched}

-- what the readers did, if the run has this result. `remaining` gives the bytes that a device has left, if it reports them
pub record ReadsAll {R T : Type 0} (remaining : R → Option (List ℕ)) (olds news : List (Watched R)) (result : Result T RunFault) : Type 0 where
  -- if the run has a status, each reader gave all that it had, or more than a source may have
  pub whole : OnOk result (All IsReadWhole news)
  -- each that reports its bytes was read to its end or, if its source is too long, just past the limit
  pub read_up : OnOk result (AreReadUp (λ r. remaining (device_of r)) olds news)
  -- the same holds if the writer failed
  pub read_up_before_a_write : IsErrOf result fault.Write → AreReadUp (λ r. remaining (device_of r)) olds news
  -- and if the workers were started
  pub read_up_before_a_build : IsErrOf result fault.NoWorker ⊎ IsErrOf result fault.Mixed → AreReadUp (λ r. remaining (device_of r)) olds news
  -- if a reader failed, the readers before it were read like that, and those after it not at all
  pub stops : IsErrOf result fault.Read → StopsAtFault (λ r. remaining (device_of r)) olds news
  -- if memory ran out, all readers were read like that, or reading stopped at one of them
  pub in_order : IsErrOf result fault.Memory → AreReadUp (λ r. remaining (device_of r)) olds news ⊎ Stops (λ r. remaining (device_of r)) olds news
  -- if the number of workers is refused, nothing was read
  pub unread : IsErrOf result fault.Workers → news ≡ olds
  -- there is a bound on the reads of each reader, and none follows a failure
  pub within : All IsReadWithin news
  -- a failed read makes the run fail
  pub failed : IsErrOf result fault.Read ⊎ All (λ r. failures_of r ≡ 0) news
  -- the run fails like that only because of a reader
  pub read : IsErrOf result fault.Read → Any HasReadFault news
