use Rattle.std.proofs.Common.{ℕ, ◌<◌, get_or}
use Rattle.hm_names.specs.declared.faults.Fault.{Fault}
use Rattle.hm_service_fixes.specs.Steps.{IsFine}
use Rattle.hm_service_fixes.specs.Views.{judged_of}
use Rattle.hm_service_fixes.proofs.faults.are_fine.Given as goal

abbrev pub invariant-faults : goal.invariant-faults
invariant-faults l = (k : ℕ) → k < l.index → (d : Fault) → IsFine (judged_of l.before) l.change l.name (get_or l.found k d)
