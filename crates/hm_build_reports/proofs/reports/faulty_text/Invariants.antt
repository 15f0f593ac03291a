use Rattle.std.proofs.Common.{◌≡◌, ◌++◌, take, string_bytes}
use Rattle.std.specs.List.{flat_map}
use Rattle.hm_verdicts.specs.Reports.{fault_line}
use Rattle.hm_build_reports.proofs.reports.faulty_text.Given as goal

abbrev pub invariant-loop-fault : goal.invariant-loop-fault
invariant-loop-fault l = string_bytes l.text ≡ string_bytes l.initial.text ++ flat_map fault_line (take l.fault-index l.faults)
