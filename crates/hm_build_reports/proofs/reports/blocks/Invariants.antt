use Rattle.std.proofs.Common.{◌≡◌, ◌<◌, ℕ, length, map, get_or}
use Rattle.hm_verdicts.specs.Reports.{Block, IsBlockOf}
use Rattle.hm_build_reports.specs.Settling.{module_set, statuses_of}
use Rattle.hm_build_reports.specs.ReportBlocks.{report_block_of}
use Rattle.hm_build_reports.proofs.reports.blocks.Given as goal

abbrev pub invariant-loop-number : goal.invariant-loop-number
invariant-loop-number l = (length (map report_block_of l.blocks.items) ≡ l.number)
    × ((k : ℕ) (d : Block) → k < length (map report_block_of l.blocks.items) → IsBlockOf (module_set l.modules l.plan) (statuses_of l.settled) k (get_or (map report_block_of l.blocks.items) k d))
