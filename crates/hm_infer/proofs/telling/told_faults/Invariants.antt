use Rattle.std.proofs.Common.{◌≡◌, take}
use Rattle.hm_infer.specs.Told.{faults_at}
use Rattle.hm_infer.proofs.telling.told_faults.Given as goal

abbrev pub invariant-starts : goal.invariant-starts
invariant-starts l = l.faults.items ≡ faults_at l.decls (take l.start-index l.starts)
