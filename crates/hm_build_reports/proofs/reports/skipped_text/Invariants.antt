use Rattle.std.proofs.Common.{◌≡◌, ◌++◌, map, take, string_bytes}
use Rattle.std.specs.List.{flat_map}
use Rattle.hm_verdicts.specs.Reports.{blame_line}
use Rattle.hm_build_reports.proofs.reports.skipped_text.Given as goal

abbrev pub invariant-loop-import : goal.invariant-loop-import
invariant-loop-import l = string_bytes l.text ≡ string_bytes l.initial.text ++ flat_map blame_line (map (λ s. s.now) (take l.import-index l.names))
