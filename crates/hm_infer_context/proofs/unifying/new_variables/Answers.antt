use Rattle.hm_infer_context.proofs.States.{problem_below}
use Rattle.hm_infer_context.proofs.unifying.new_variables.Goals as goal

pub returns-in_err-give-clause-below : goal.returns-in_err-give-clause-below
returns-in_err-give-clause-below c = problem_below c.args.solver.now c.well_formed-2.ensures

pub returns-clause-below : goal.returns-clause-below
returns-clause-below c = problem_below c.args.solver.now c.well_formed-2.ensures
