use Rattle.std.proofs.Common.{map, take}
use Rattle.hm_service_rename.specs.Sets.{AreHeldAs}
use Rattle.hm_service_rename.proofs.changed.held_with.Given as goal

abbrev pub invariant-texts : goal.invariant-texts
invariant-texts g l = AreHeldAs (map (λ s. s.items) (take l.text-index l.texts)) l.held.items
