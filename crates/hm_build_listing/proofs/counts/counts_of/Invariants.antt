use Rattle.std.proofs.Common.{◌≡◌, ◌≤◌, ◌+◌}
use Rattle.hm_verdicts.specs.Reports.{tally, is_published, is_failed, is_skipped}
use Rattle.hm_build_reports.specs.Settling.{statuses_of}
use Rattle.hm_build_listing.proofs.counts.counts_of.Given as goal

abbrev pub invariant-loop-status : goal.invariant-loop-status
invariant-loop-status l = (l.good ≡ tally is_published (statuses_of l.settled) l.status-index) × ((l.faulty ≡ tally is_failed (statuses_of l.settled) l.status-index) × ((l.skipped ≡ tally is_skipped (statuses_of l.settled) l.status-index) × (l.good + l.faulty + l.skipped ≤ l.status-index)))
