use Rattle.std.proofs.Common.{ℕ, ◌<◌, get_or}
use Rattle.hm_store.specs.declared.record.Record.{Record}
use Rattle.hm_build_reports.specs.Rounds.{IsInRounds}
use Rattle.hm_build_reports.proofs.rounds.are_in_rounds.Given as goal

abbrev pub invariant-records : goal.invariant-records
invariant-records l = (k : ℕ) (d : Record) → k < l.log-index → IsInRounds l.plan (get_or l.records k d)
