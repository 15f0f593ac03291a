-- The parts of a watched device that clauses read.
use Rattle.std.specs.Prelude.{◌≡◌, ℕ, ◌<◌, ◌≤◌, ◌⊎◌, Bool, false, true, List, [], Option, None, Some, length}
use Rattle.std.specs.declared.snapshot.Snapshot.{Snapshot}
use Rattle.std.specs.declared.vec.Vec.{Vec}
use Rattle.std.specs.declared.alloc.Global.{Global}
use Rattle.hm_run_io.specs.declared.watched.Watched.{Watched}

-- the device inside
abbrev pub device_of : {D : Type 0} → Watched D → D
device_of w = w.device

-- the number of reads
abbrev pub reads_of : {D : Type 0} → Watched D → ℕ
reads_of w = w.reads

-- the number of bytes that were read
abbrev pub bytes_of : {D : Type 0} → Watched D → ℕ
bytes_of w = w.bytes

-- the number of reads and writes that returned `Interrupted`
abbrev pub interrupts_of : {D : Type 0} → Watched D → ℕ
interrupts_of w = w.interrupts

-- the number of failures: reads and writes with other errors, failed flushes, and writes that took no byte
abbrev pub failures_of : {D : Type 0} → Watched D → ℕ
failures_of w = w.failures

-- the number of flushes
abbrev pub flushes_of : {D : Type 0} → Watched D → ℕ
flushes_of w = w.flushes

-- whether a flush succeeded, and nothing was written or flushed since
abbrev pub is_flushed_of : {D : Type 0} → Watched D → Bool
is_flushed_of w = w.is_flushed

-- the bytes that were noted, if any were
abbrev pub noted : Option (Snapshot (Vec ℕ Global)) → List ℕ
noted None = []
noted (Some s) = s.value.items

-- the bytes that the device gave to `read_all`, in order
abbrev pub given_of : {D : Type 0} → Watched D → List ℕ
given_of w = noted w.given

-- whether the last read was for at least one byte and got none
abbrev pub has_ended_of : {D : Type 0} → Watched D → Bool
has_ended_of w = w.has_ended

-- all counts are 0, nothing was given, and nothing was flushed
pub record IsFresh {D : Type 0} (w : Watched D) : Type 0 where
  pub reads : reads_of w ≡ 0
  pub bytes : bytes_of w ≡ 0
  pub interrupts : interrupts_of w ≡ 0
  pub failures : failures_of w ≡ 0
  pub flushes : flushes_of w ≡ 0
  pub unflushed : is_flushed_of w ≡ false
  pub none : given_of w ≡ []

-- the bytes that were given are those of all reads, to the end of the device or just past the limit of a source
pub record IsReadWhole {R : Type 0} (r : Watched R) : Type 0 where
  pub all : bytes_of r ≡ length (given_of r)
  pub whole : (has_ended_of r ≡ true) ⊎ (bytes_of r ≡ 1048577)

-- why reading may stop
abbrev pub HasReadFault : {R : Type 0} → Watched R → Type 0
HasReadFault r = (0 < failures_of r) ⊎ (reads_of r ≡ 2097152)

-- why writing may stop
abbrev pub HasWriteFault : {W : Type 0} → Watched W → Type 0
HasWriteFault w = (0 < failures_of w) ⊎ (interrupts_of w ≡ 2097152)

-- there is a bound on the reads and the bytes of a reader, and none follows its first failure
pub record IsReadWithin {R : Type 0} (r : Watched R) : Type 0 where
  pub reads : reads_of r ≤ 2097152
  pub bytes : bytes_of r ≤ 1048577
  pub failures : failures_of r ≤ 1

-- nothing is written after the first failure or after too many interrupts, and the writer is flushed at most once
pub record IsWrittenOnce {W : Type 0} (w : Watched W) : Type 0 where
  pub failures : failures_of w ≤ 1
  pub interrupts : interrupts_of w ≤ 2097152
  pub flushes : flushes_of w ≤ 1

-- no write and no flush failed, and there weren't too many interrupted writes
pub record IsWritten {W : Type 0} (w : Watched W) : Type 0 where
  pub failures : failures_of w ≡ 0
  pub interrupts : interrupts_of w < 2097152

-- one flush succeeded, and nothing was written after it
pub record IsFlushedBehind {W : Type 0} (w : Watched W) : Type 0 where
  pub flushes : flushes_of w ≡ 1
  pub behind : is_flushed_of w ≡ true
