use Rattle.std.proofs.Common.{◌≡◌, ◌<◌, ◌+◌, ◌-◌, ◌++◌, ℕ, List, length}
use Rattle.std.specs.Io.KnownBytes.{Appends}
use Rattle.hm_run_io.specs.Watching.{device_of, interrupts_of, failures_of, flushes_of}
use Rattle.hm_run_io.proofs.output.write_text.Given as goal

abbrev pub invariant-loop-rest : goal.invariant-loop-rest
invariant-loop-rest g l = (failures_of l.writer ≡ 0) × (interrupts_of l.writer < 2097152)
    × (flushes_of l.writer ≡ 0) × ((sent : List ℕ) × (l.text ≡ sent ++ l.rest) × Appends (g.W.Write.contents (device_of l.initial.writer)) (g.W.Write.contents (device_of l.writer)) sent)

abbrev pub decreases-loop-rest : goal.decreases-loop-rest
decreases-loop-rest g l = length l.rest + (2097152 - interrupts_of l.writer)
