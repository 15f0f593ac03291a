use Rattle.std.proofs.Common.{◌≡◌, map, take, Some}
use Rattle.std.specs.Arc.{arc_value}
use Rattle.hm_store.specs.Builds.{interface_at}
use Rattle.hm_store.proofs.store.Store.are_published.Given as goal

abbrev pub invariant-loop-place : goal.invariant-loop-place
invariant-loop-place l = map (λ f. Some (arc_value f)) (take l.place l.interfaces) ≡ map (interface_at l.self.kept) (take l.place l.numbers)
