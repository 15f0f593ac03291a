use Rattle.std.proofs.Common.{arith}
use Rattle.hm_types.specs.Shape.{type_of}
use Rattle.hm_infer_context.proofs.Made.{function_shape, function_given}
use Rattle.hm_infer_context.proofs.shapes.function_type.Goals as goal

pub parts-preserved : goal.parts-preserved
parts-preserved c = record {
  in_range = omega arith;
  shape = function_shape c.args.first c.args.count c.parts.j (type_of c.parts.t) _ (type_of c.args.outcome.now) c.in_ok-t-2.ensures (omega arith) c.parts.invariant.in_range c.parts.invariant.shape;
  given = λ g b w. function_given g c.args.first c.args.count c.parts.j (type_of c.parts.t) _ c.in_ok-t-2.ensures (omega arith) c.parts.invariant.in_range b (c.parts.invariant.given g b w);
}
