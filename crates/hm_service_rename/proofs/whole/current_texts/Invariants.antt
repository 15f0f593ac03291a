use Rattle.std.proofs.Common.{◌≡◌, map, take}
use Rattle.hm_service_sources.specs.HeldSets.{texts_of}
use Rattle.hm_service_rename.proofs.whole.current_texts.Given as goal

abbrev pub invariant-loop-source : goal.invariant-loop-source
invariant-loop-source l = map (λ s. s.items) l.texts.items ≡ texts_of (take l.source-index l.held)
