use Rattle.std.proofs.Common.{◌≡◌, All, map, take}
use Rattle.std.specs.Arc.{arc_value}
use Rattle.hm_build_reports.specs.ReportBlocks.{all_blamed}
use Rattle.hm_build_reports.specs.Settling.{statuses_of}
use Rattle.hm_build_messages.specs.Explanations.{IsBlamedBy, blamed_of}
use Rattle.hm_build_messages.proofs.explaining.blames_of.Given as goal

abbrev pub invariant-loop-number : goal.invariant-loop-number
invariant-loop-number l = record {
  names : map (λ b. b.name.now) l.blames.items ≡ all_blamed (map arc_value l.modules) (statuses_of l.settled) (take l.number-index l.row);
  right : All (λ b. IsBlamedBy (map arc_value l.modules) (statuses_of l.settled) l.row l.imports (blamed_of b)) l.blames.items;
}
