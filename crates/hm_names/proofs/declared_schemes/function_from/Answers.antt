use Rattle.hm_names.proofs.ConstructorTypes.{popped_argument}
use Rattle.hm_names.proofs.declared_schemes.function_from.Goals as goal

pub loop-argument-preserved : goal.loop-argument-preserved
loop-argument-preserved c = popped_argument c.loop-argument.left.items c.pop.new.self.items c.pop.result c.in-Some.argument c.loop-argument.ty c.in_ok-ty.ty _ c.pop.ensures.items c.in-Some.is c.in_ok-ty.ensures c.loop-argument.invariant
