use Rattle.hm_infer_context.proofs.Inferred.{instance_inferred}
use Rattle.hm_infer_context.proofs.Opened.{instance_given}
use Rattle.hm_infer_context.proofs.instances.scheme_instance.Goals as goal

pub returns-clause-inferred : goal.returns-clause-inferred
returns-clause-inferred c = instance_inferred c.args.solver.now c.new_variables.new.solver c.args.quantified c.in_ok-base.base _ _ c.requires.scheme c.in_ok-base.ensures.below c.well_formed-2.ensures c.in_ok-base.ensures.next c.in_ok-base.ensures.first c.in_ok-instantiate.ensures

pub returns-clause-given : goal.returns-clause-given
returns-clause-given c = instance_given c.args.solver.now c.new_variables.new.solver c.args.quantified c.in_ok-base.base _ _ c.in_ok-base.ensures.next c.in_ok-base.ensures.first c.in_ok-instantiate.ensures c.requires.scheme
