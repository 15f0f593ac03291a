use Rattle.std.proofs.Common.{◌≡◌, ◌<◌, ℕ, get_or}
use Rattle.hm_store.specs.declared.record.Record.{Record}
use Rattle.hm_build_reports.proofs.ending.are_numbered.Given as goal

abbrev pub invariant-loop-number : goal.invariant-loop-number
invariant-loop-number l = (k : ℕ) (d : Record) → k < l.number → (get_or l.records k d).worker ≡ k
