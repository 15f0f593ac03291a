use Rattle.std.proofs.Common.{◌≡◌, map, take}
use Rattle.hm_service_sources.proofs.texts.reads_of.Given as goal

abbrev pub invariant-loop-source : goal.invariant-loop-source
invariant-loop-source l = l.reads.items ≡ map (λ h. h.is_read) (take l.source-index l.held)
