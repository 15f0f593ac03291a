use Rattle.std.proofs.Common.{◌≡◌, filter, take}
use Rattle.hm_verdicts.specs.Reports.{is_skipped}
use Rattle.hm_build_reports.specs.Settling.{statuses_of}
use Rattle.hm_build_messages.proofs.explaining.skipped_rows.Given as goal

abbrev pub invariant-loop-row : goal.invariant-loop-row
invariant-loop-row l = l.kept.items ≡ filter (λ r. is_skipped (statuses_of l.settled r.number)) (take l.row-index l.rows)
