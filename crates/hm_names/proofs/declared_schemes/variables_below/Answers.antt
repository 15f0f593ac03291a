use Rattle.std.proofs.Common.{refl}
use Rattle.hm_names.proofs.ConstructorTypes.{pushed_variable}
use Rattle.hm_names.proofs.declared_schemes.variables_below.Goals as goal

pub loop-n-preserved : goal.loop-n-preserved
loop-n-preserved c = pushed_variable c.loop-n.variables.items c.push.new.self.items c.loop-n.n _ c.in_ok-push.ensures.items refl c.loop-n.invariant
