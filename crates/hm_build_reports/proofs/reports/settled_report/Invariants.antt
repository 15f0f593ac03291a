use Rattle.std.proofs.Common.{◌≡◌, map, take, string_bytes}
use Rattle.std.specs.List.{flat_map}
use Rattle.hm_build_reports.specs.ReportBlocks.{report_block_of}
use Rattle.hm_build_reports.proofs.reports.settled_report.Given as goal

abbrev pub invariant-loop-block : goal.invariant-loop-block
invariant-loop-block l = string_bytes l.text ≡ flat_map (λ b. b.text) (map report_block_of (take l.block-index l.block-items))
