use Rattle.std.proofs.Common.{◌≡◌, length}
use Rattle.hm_types.specs.Monotypes.{size, list_size}
use Rattle.hm_types.specs.Shape.{type_of, types_of}
use Rattle.hm_messages_types.proofs.infinite.+infinite.Given as goal

abbrev pub decreases-need_infinite : goal.decreases-need_infinite
decreases-need_infinite l = size (type_of l.left.now)

abbrev pub decreases-some_need_infinite : goal.decreases-some_need_infinite
decreases-some_need_infinite l = list_size (types_of l.lefts.now)

abbrev pub invariant-some_need_infinite-loop-i : goal.invariant-some_need_infinite-loop-i
invariant-some_need_infinite-loop-i l = length l.lefts ≡ length l.rights
