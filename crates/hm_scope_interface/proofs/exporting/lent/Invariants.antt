use Rattle.std.proofs.Common.{◌≡◌, map, take}
use Rattle.std.specs.Arc.{arc_value}
use Rattle.hm_scope_interface.proofs.exporting.lent.Given as goal

abbrev pub invariant-loop-interface : goal.invariant-loop-interface
invariant-loop-interface l = map (λ f. f.now) l.lent.items ≡ map arc_value (take l.interface-index l.interfaces)
