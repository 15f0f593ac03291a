use Rattle.hm_infer_context.proofs.States.{equate_answers}
use Rattle.hm_infer_context.proofs.unifying.equate.Goals as goal

pub returns-clause-answers : goal.returns-clause-answers
returns-clause-answers c = equate_answers _ _ _ _ _ c.requires.left c.requires.right c.well_formed-2.ensures c.well_formed-3.ensures c.unify-done.ensures.same c.unify-done.ensures.rest c.unify-done.ensures.clash
