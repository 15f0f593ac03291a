use Rattle.hm_types.specs.Shape.{type_of}
use Rattle.hm_infer_context.specs.Inferred.{IsSomeFunction}
use Rattle.hm_infer_context.proofs.Inferred.{parts_made, parts_refused, refusal_passed}
use Rattle.hm_infer_context.proofs.Opened.{more_given}
use Rattle.hm_infer_context.proofs.parts.new_parts.Goals as goal

pub equate-requires-clause-left : goal.equate-requires-clause-left
equate-requires-clause-left c = more_given c.args.solver.now c.new_variables.new.solver 2 _ c.in_ok-first.ensures.next c.requires.given

pub returns-in_err-equate-clause-refused : goal.returns-in_err-equate-clause-refused
returns-in_err-equate-clause-refused c =
    refusal_passed (IsSomeFunction (type_of c.args.t.now)) c.args.solver.now c.from_residual-in_err-equate.result c.in_err-equate.field-0.0 c.from_residual-in_err-equate.ensures.1
    (parts_refused c.args.solver.now c.new_variables.new.solver (type_of c.args.t.now) (type_of c.in_ok-whole.whole) c.in_ok-first.first c.requires.given c.in_ok-first.ensures.below c.in_ok-first.ensures.next c.in_ok-first.ensures.first c.in_ok-whole.ensures c.in_err-equate.field-0.0 c.in_err-equate.ensures.answers)

pub returns-clause-parts : goal.returns-clause-parts
returns-clause-parts c =
    parts_made c.args.solver.now c.new_variables.new.solver c.equate.new.solver (type_of c.args.t.now) (type_of c.in_ok-whole.whole) c.in_ok-first.first c.requires.given c.in_ok-first.ensures.below c.in_ok-first.ensures.next c.in_ok-first.ensures.first c.in_ok-whole.ensures c.in_ok-equate.ensures.answers
