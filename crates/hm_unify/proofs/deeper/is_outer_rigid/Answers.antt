use Rattle.hm_types.specs.Monotypes.{rigid}
use Rattle.hm_unify.specs.Steps.{equations_in}
use Rattle.hm_unify.proofs.Outer.{tested_outer}
use Rattle.hm_unify.proofs.deeper.is_outer_rigid.Goals as goal

pub returns : goal.returns
returns c = tested_outer (equations_in c.args.bindings.now) c.args.levels.now (rigid c.args.number) c.args.count c.of_rigid.result c.requires tt c.of_rigid.ensures
