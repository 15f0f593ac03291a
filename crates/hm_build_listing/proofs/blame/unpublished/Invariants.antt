use Rattle.std.proofs.Common.{◌≡◌, map, take}
use Rattle.std.specs.Arc.{arc_value}
use Rattle.hm_build_reports.specs.ReportBlocks.{all_blamed}
use Rattle.hm_build_reports.specs.Settling.{statuses_of}
use Rattle.hm_build_listing.proofs.blame.unpublished.Given as goal

abbrev pub invariant-loop-number : goal.invariant-loop-number
invariant-loop-number l = map (λ s. s.now) l.names.items ≡ all_blamed (map arc_value l.modules) (statuses_of l.settled) (take l.number-index l.row)
