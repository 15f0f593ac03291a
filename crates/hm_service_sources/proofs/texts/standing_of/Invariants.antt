use Rattle.std.proofs.Common.{◌≡◌, map, take}
use Rattle.hm_service_sources.specs.HeldSets.{standing_of}
use Rattle.hm_service_sources.proofs.texts.standing_of.Given as goal

abbrev pub invariant-loop-source : goal.invariant-loop-source
invariant-loop-source l = map (λ s. s.items) l.texts.items ≡ standing_of (take l.source-index l.held)
