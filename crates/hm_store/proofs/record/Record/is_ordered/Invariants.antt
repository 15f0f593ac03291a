use Rattle.std.proofs.Common.{◌≡◌, ◌+◌, cond, drop}
use Rattle.hm_store.specs.Records.{rises}
use Rattle.hm_store.proofs.record.Record.is_ordered.Given as goal

abbrev pub invariant-loop-call : goal.invariant-loop-call
invariant-loop-call l = rises (l.known + cond l.wrote 1 0) (drop l.call-index l.call-items) ≡ rises 0 l.call-items
