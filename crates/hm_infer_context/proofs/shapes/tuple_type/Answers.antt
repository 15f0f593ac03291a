use Rattle.std.proofs.Common.{arith, refl}
use Rattle.hm_infer_context.proofs.Made.{parts_many, parts_shape, parts_given, tuple_given}
use Rattle.hm_infer_context.proofs.shapes.tuple_type.Goals as goal

pub loop-j-preserved : goal.loop-j-preserved
loop-j-preserved c = record {
  many = parts_many _ _ _ _ c.in_ok-push.ensures.items c.loop-j.invariant.many;
  shape = parts_shape c.args.first c.loop-j.j _ _ _ c.in_ok-push.ensures.items refl c.loop-j.invariant.many c.loop-j.invariant.shape;
  given = λ g b. parts_given g c.args.first c.loop-j.j _ _ _ c.in_ok-push.ensures.items refl b (c.loop-j.invariant.given g (omega arith));
}

pub returns-clause-given : goal.returns-clause-given
returns-clause-given c = λ g b. tuple_given g c.loop-j.j c.args.count _ c.new.result c.new.ensures c.loop-j.invariant.many (omega arith) (c.loop-j.invariant.given g (omega arith))
