-- What a run did with its writer, whatever the text.
use Rattle.std.specs.Prelude.{◌≡◌, ◌⊎◌, Result, IsErrOf, OnErr, OnOk}
use Rattle.hm_run_io.specs.Watching.{HasWriteFault, IsFlushedBehind, IsWritten, IsWrittenOnce}
use Rattle.hm_run_io.specs.declared.faults.RunFault.{RunFault}
use Rattle.hm_run_io.specs.declared.faults.RunFault.TheVariants as fault
use Rattle.hm_run_io.specs.declared.watched.Watched.{Watched}

-- what was done with the writer, if the run has this result
pub record WritesOnce {W T : Type 0} (old new : Watched W) (result : Result T RunFault) : Type 0 where
  -- if the run has a status, the writer was flushed once, after the text
  pub flushed : OnOk result (IsFlushedBehind new)
  -- after any fault but a failed write nothing was written
  pub nothing : OnErr result ((new ≡ old) ⊎ IsErrOf result fault.Write)
  -- nothing is written after the writer failed, and it is flushed at most once
  pub once : IsWrittenOnce new
  -- a failed write or flush makes the run fail
  pub written : IsErrOf result fault.Write ⊎ IsWritten new
  -- the run fails like that only because of the writer
  pub write : IsErrOf result fault.Write → HasWriteFault new
