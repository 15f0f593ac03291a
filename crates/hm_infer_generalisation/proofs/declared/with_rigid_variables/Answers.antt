use Rattle.hm_infer_generalisation.proofs.DeclaredTypes.{rigid_given, rigid_shape}
use Rattle.hm_infer_generalisation.proofs.declared.with_rigid_variables.Goals as goal

pub returns-clause-body : goal.returns-clause-body
returns-clause-body c = rigid_shape c.args.solver.now.given c.args.declared.now.count c.in_ok-first.first _ _ c.requires c.in_ok-first.ensures.first c.in_ok-body.ensures

pub returns-clause-given : goal.returns-clause-given
returns-clause-given c = rigid_given c.args.solver.now c.new_variables.new.solver c.args.declared.now.count c.in_ok-first.first _ _ c.in_ok-first.ensures.next c.in_ok-first.ensures.first c.in_ok-body.ensures c.requires
