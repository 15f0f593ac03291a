use Rattle.std.proofs.Common.{◌≡◌, ◌<◌, ◌≤◌, ℕ, List, length, map, take, get_or, vec_len}
use Rattle.std.specs.Prelude.{All}
use Rattle.hm_run_io.specs.Watching.{device_of, failures_of, given_of, IsReadWhole, IsReadWithin}
use Rattle.hm_run_io.specs.Sources.{held_of, IsReadUp, Tell}
use Rattle.hm_run_io.proofs.reading.read_all.Given as goal

abbrev pub invariant-loop-index : goal.invariant-loop-index
invariant-loop-index g l = ((k : ℕ) (d : _) → l.index ≤ k → k < length l.readers → get_or l.readers k d ≡ get_or l.initial.readers k d)
    × (length l.readers ≡ length l.initial.readers)
    × ((told : List (List ℕ)) → Tell (λ r. g.R.Read.remaining (device_of r)) (take l.index l.initial.readers) told → map (λ s. s.items) l.sources.items ≡ map held_of told)
    × All IsReadWithin l.readers × All (λ r. failures_of r ≡ 0) l.readers
    × ((k : ℕ) (d : _) → k < l.index → IsReadUp (g.R.Read.remaining (device_of (get_or l.initial.readers k d))) (g.R.Read.remaining (device_of (get_or l.readers k d))))
    × All (λ s. vec_len s ≤ 1048577) l.sources.items
    × (map (λ s. s.items) l.sources.items ≡ map given_of (take l.index l.readers))
    × All IsReadWhole (take l.index l.readers)
