use Rattle.std.proofs.Common.{◌≡◌, ◌+◌}
use Rattle.hm_types.specs.Shape.{type_of}
use Rattle.hm_types.specs.Types.{put}
use Rattle.hm_typing.specs.Patterns.{arrows}
use Rattle.hm_infer_context.specs.Problems.{monotype, given_more, new_at}
use Rattle.hm_infer_context.proofs.States.{Makes, problem_below}
use Rattle.hm_infer_context.proofs.Opened.{more_given}
use Rattle.hm_infer_context.proofs.Taken.{reworded, reworded_refusal, result_taken, made_turn}
use Rattle.hm_infer_context.proofs.parts.function_parts.Goals as goal

pub equate-requires-clause-left : goal.equate-requires-clause-left
equate-requires-clause-left c = more_given c.args.solver.now c.new_variables.new.solver (c.args.count + 1) _ c.in_ok-first.ensures.next c.requires

pub returns-in_err-equate-clause-answers : goal.returns-in_err-equate-clause-answers
returns-in_err-equate-clause-answers c =
    let turn = made_turn (type_of c.args.t.now) (type_of c.in_ok-whole.whole) (λ r. arrows c.args.count (new_at c.args.solver.now.given r) 0 (new_at c.args.solver.now.given r c.args.count)) (λ r. result_taken c.args.solver.now.given c.in_ok-first.first c.args.count (type_of c.in_ok-whole.whole) r c.in_ok-first.ensures.first c.in_ok-whole.ensures.shape) in
    reworded_refusal (Makes (type_of c.args.t.now) (type_of c.in_ok-whole.whole)) (λ r. put r (monotype (type_of c.args.t.now)) ≡ arrows c.args.count (new_at c.args.solver.now.given r) 0 (new_at c.args.solver.now.given r c.args.count)) c.new_variables.new.solver (given_more c.args.solver.now (c.args.count + 1)) c.equate.new.solver c.from_residual-in_err-equate.result c.in_err-equate.field-0.0 c.in_ok-first.ensures.next c.from_residual-in_err-equate.ensures.1 turn.1 c.in_err-equate.ensures.answers

pub returns-clause-answers : goal.returns-clause-answers
returns-clause-answers c =
    let turn = made_turn (type_of c.args.t.now) (type_of c.in_ok-whole.whole) (λ r. arrows c.args.count (new_at c.args.solver.now.given r) 0 (new_at c.args.solver.now.given r c.args.count)) (λ r. result_taken c.args.solver.now.given c.in_ok-first.first c.args.count (type_of c.in_ok-whole.whole) r c.in_ok-first.ensures.first c.in_ok-whole.ensures.shape) in
    reworded (Makes (type_of c.args.t.now) (type_of c.in_ok-whole.whole)) (λ r. put r (monotype (type_of c.args.t.now)) ≡ arrows c.args.count (new_at c.args.solver.now.given r) 0 (new_at c.args.solver.now.given r c.args.count)) c.new_variables.new.solver (given_more c.args.solver.now (c.args.count + 1)) c.equate.new.solver c.in_ok-first.ensures.next turn.0 turn.1 c.in_ok-equate.ensures.answers

pub returns-then-count-eq18446744073709551615-clause-below : goal.returns-then-count-eq18446744073709551615-clause-below
returns-then-count-eq18446744073709551615-clause-below c = problem_below c.args.solver.now c.well_formed-2.ensures
