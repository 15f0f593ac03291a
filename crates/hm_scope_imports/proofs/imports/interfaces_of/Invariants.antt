use Rattle.std.proofs.Common.{◌≡◌, take, map, ◌∷◌}
use Rattle.std.specs.Arc.{arc_value}
use Rattle.hm_scope_imports.proofs.imports.interfaces_of.Given as goal

abbrev pub invariant-loop-interface : goal.invariant-loop-interface
invariant-loop-interface l = map (λ f. f.now) l.interfaces.items ≡ l.prelude ∷ map arc_value (take l.interface-index l.imports)
