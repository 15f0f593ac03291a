use Rattle.std.proofs.Common.{◌≡◌, map, take}
use Rattle.hm_service_sources.proofs.texts.copies.Given as goal

abbrev pub invariant-texts : goal.invariant-texts
invariant-texts l = map (λ s. s.items) l.copies.items ≡ map (λ s. s.items) (take l.text-index l.texts)
