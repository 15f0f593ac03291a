use Rattle.hm_infer_context.proofs.Opened.{instance_answers, more_given, instance_given}
use Rattle.hm_infer_context.proofs.instances.check_scheme.Goals as goal

pub equate-requires-clause-left : goal.equate-requires-clause-left
equate-requires-clause-left c = more_given c.args.solver.now c.new_variables.new.solver c.args.quantified _ c.in_ok-base.ensures.next c.requires.given

pub equate-requires-clause-right : goal.equate-requires-clause-right
equate-requires-clause-right c = instance_given c.args.solver.now c.new_variables.new.solver c.args.quantified c.in_ok-base.base _ _ c.in_ok-base.ensures.next c.in_ok-base.ensures.first c.in_ok-instance.ensures c.requires.scheme

pub returns : goal.returns
returns c = instance_answers c.args.solver.now c.new_variables.new.solver c.equate.new.solver c.args.quantified c.in_ok-base.base _ _ _ c.equate.result c.requires.scheme c.requires.given c.in_ok-base.ensures.below c.in_ok-base.ensures.next c.in_ok-base.ensures.first c.in_ok-instance.ensures c.equate.ensures.answers
