use Rattle.std.proofs.Common.{◌≡◌, ◌≤◌, ◌++◌, length, map, take}
use Rattle.hm_build_reports.specs.Rounds.{Found, deeds}
use Rattle.hm_build_reports.proofs.rounds.after_looks.Given as goal

abbrev pub invariant-modules : goal.invariant-modules
invariant-modules l = (deeds l.calls ≡ map Found (take l.number-index l.modules) ++ deeds l.left) × (length l.left ≤ length l.calls)
