use Rattle.std.proofs.Common.{count_by, take}
use Rattle.hm_store.specs.Agreement.{writes_at}
use Rattle.hm_store.specs.AuditsInside.{Marks}
use Rattle.hm_store.proofs.store.audit.marks.mark_all.Given as goal

abbrev pub invariant-loop-call : goal.invariant-loop-call
invariant-loop-call l = Marks l.initial.marks (λ i. count_by (writes_at i) (take l.call-index l.calls)) l.marks
