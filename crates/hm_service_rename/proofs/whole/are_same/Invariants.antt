use Rattle.std.proofs.Common.{◌≡◌, map, take}
use Rattle.hm_service_rename.proofs.whole.are_same.Given as goal

abbrev pub invariant-texts : goal.invariant-texts
invariant-texts l = map (λ s. s.items) (take l.i l.texts) ≡ map (λ s. s.items) (take l.i l.others)
