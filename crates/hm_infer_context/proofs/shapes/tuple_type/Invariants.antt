use Rattle.std.proofs.Common.{◌≡◌, ℕ, ◌+◌, ◌≤◌, length, false}
use Rattle.hm_types.specs.Monotypes.{arguments_of}
use Rattle.hm_types.specs.Shape.{types_of}
use Rattle.hm_typing.specs.Patterns.{arguments}
use Rattle.hm_unify.specs.WellFormed.{AreWellFormed}
use Rattle.hm_infer_context.specs.Patterns.{from_number}
use Rattle.hm_infer_context.proofs.Made.{monotypes}
use Rattle.hm_infer_context.proofs.shapes.tuple_type.Given as goal

abbrev pub invariant-loop-j : goal.invariant-loop-j
invariant-loop-j l = record {
  many : length (types_of l.parts.items) ≡ l.j;
  shape : monotypes (arguments_of (types_of l.parts.items)) ≡ arguments l.j (from_number false l.first) 0;
  given : (g : ℕ) → l.first + l.j ≤ g → AreWellFormed g (arguments_of (types_of l.parts.items));
}
