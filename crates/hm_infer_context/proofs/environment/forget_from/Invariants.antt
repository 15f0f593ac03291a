use Rattle.std.proofs.Common.{◌≡◌, ◌≤◌, length, take}
use Rattle.hm_infer_context.specs.Places.{IsPlaced}
use Rattle.hm_infer_context.proofs.environment.forget_from.Given as goal

abbrev pub invariant-items : goal.invariant-items
invariant-items l = record {
  kept : l.items.items ≡ take (length l.items.items) l.initial.items.items;
  long : l.depth ≤ length l.initial.items.items → l.depth ≤ length l.items.items;
  placed : IsPlaced l.initial.items.items l.initial.innermost → IsPlaced l.items.items l.innermost;
}

abbrev pub decreases-items : goal.decreases-items
decreases-items l = length l.items.items
