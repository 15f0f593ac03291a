use Rattle.std.proofs.Common.{◌≡◌, ◌+◌, Some, map, take}
use Rattle.std.specs.Arc.{arc_value}
use mathlib.Core.List.{IsPrefix}
use Rattle.hm_store_published.specs.Publications.{interface_in}
use Rattle.hm_store_shared.specs.Passes.{known_of, room_of, seen_of, worker_of}
use Rattle.hm_store_shared.proofs.passes.Pass.look_at_all.Given as goal

abbrev pub invariant-loop-number : goal.invariant-loop-number
invariant-loop-number g l = record {
  seen : IsPrefix (seen_of l.initial.self) (seen_of l.self);
  reply : map (λ i. Some (arc_value i)) l.interfaces.items ≡ map (interface_in (seen_of l.initial.self)) (take l.number-index l.numbers);
  known : known_of l.self ≡ known_of l.initial.self;
  worker : worker_of l.self ≡ worker_of l.initial.self;
  room : room_of l.self + l.number-index ≡ room_of l.initial.self;
}
