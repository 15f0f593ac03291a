use Rattle.std.proofs.Common.{◌≡◌, ℕ, ◌+◌, ◌-◌, ◌≤◌, false}
use Rattle.hm_types.specs.Shape.{type_of}
use Rattle.hm_typing.specs.Patterns.{arrows}
use Rattle.hm_unify.specs.WellFormed.{IsWellFormed}
use Rattle.hm_infer_context.specs.Problems.{monotype}
use Rattle.hm_infer_context.specs.Patterns.{from_number}
use Rattle.hm_infer_context.proofs.shapes.function_type.Given as goal

abbrev pub invariant-parts : goal.invariant-parts
invariant-parts l = record {
  in_range : l.j ≤ l.count;
  shape : monotype (type_of l.t) ≡ arrows (l.count - l.j) (from_number false l.first) l.j (monotype (type_of l.outcome));
  given : (g : ℕ) → l.first + l.count ≤ g → IsWellFormed g (type_of l.outcome) → IsWellFormed g (type_of l.t);
}

abbrev pub decreases-parts : goal.decreases-parts
decreases-parts l = l.j
