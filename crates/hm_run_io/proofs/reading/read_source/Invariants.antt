use Rattle.std.proofs.Common.{◌≡◌, ◌<◌, ◌≤◌, ◌-◌, vec_len}
use Rattle.std.specs.Io.KnownBytes.{Consumes}
use Rattle.hm_run_io.specs.Watching.{device_of, reads_of, bytes_of, given_of, failures_of}
use Rattle.hm_run_io.proofs.reading.read_source.Given as goal

abbrev pub invariant-loop-reader : goal.invariant-loop-reader
invariant-loop-reader g l = (failures_of l.reader ≡ 0) × (reads_of l.reader ≤ 2097152) × (vec_len l.held < 1048577) × (bytes_of l.reader ≡ vec_len l.held)
    × Consumes (g.R.Read.remaining (device_of l.initial.reader)) (g.R.Read.remaining (device_of l.reader)) l.held.items
    × (given_of l.reader ≡ l.held.items)

abbrev pub decreases-loop-reader : goal.decreases-loop-reader
decreases-loop-reader g l = 2097152 - reads_of l.reader
