use Rattle.std.proofs.Common.{◌≡◌, map, take}
use Rattle.hm_service_sources.specs.HeldSets.{texts_at}
use Rattle.hm_service_sources.proofs.texts.texts_at.Given as goal

abbrev pub invariant-loop-number : goal.invariant-loop-number
invariant-loop-number l = map (λ s. s.items) l.copies.items ≡ texts_at (map (λ s. s.items) l.texts) (take l.number-index l.numbers)
