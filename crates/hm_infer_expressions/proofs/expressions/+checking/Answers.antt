use Rattle.std.proofs.Common.{◌<◌, suc, ap, ap₂, sym, IfOk, IfErr, ◌∙◌, subst, refl, arith, rules, Ok, Err, Some, None, ◌≡◌, ◌≤◌, length, get_or, ◌+◌, ◌*◌}
use Rattle.hm_types.specs.Shape.{type_of}
use Rattle.hm_types.specs.Types.{Var}
use Rattle.hm_types.specs.Monotypes.{var}
use Rattle.hm_syntax.specs.Lists.{expressions, patterns, declarations, body, bodies, alternatives}
use Rattle.hm_syntax.specs.Sizes.{expression_size, expressions_size, bodies_size, right_side_size, alternatives_size, declaration_size}
use Rattle.hm_syntax.specs.Trees.{variable_expression, constructor_expression, literal_expression, application, if_expression, tuple_expression, list_expression, lambda, let_expression, right_side, case_expression, typed_expression, no_bodies, clause as clause_tree}
use Rattle.hm_syntax.specs.Views.OfExpressions.{expression_of as tree_of, declaration_of as declaration_tree}
use Rattle.hm_infer_expressions.proofs.JudgedGroups.{judges_passed, judges_refused, judges_solved}
use Rattle.hm_infer_context.specs.Environments.{AreAssumed, assumptions, Extends}
use Rattle.hm_infer_expressions.specs.GroupQuestions.{HaveTypesOf, MembersHave}
use Rattle.hm_infer_context.specs.Problems.{monotype, Answers, Refuses}
use Rattle.hm_unify.specs.WellFormed.{IsWellFormed}
use Rattle.hm_infer_context.specs.Constructors.{known_of}
use Rattle.hm_names.specs.Syntax.{patterns_of, bindings_of}
use Rattle.hm_infer_context.specs.Functions.{IsOpened, RefusesOpening}
use Rattle.hm_infer_context.specs.PartTypes.{is_one, first_of}
use Rattle.hm_infer_expressions.specs.Lists.{IsBound, RefusesList}
use Rattle.hm_infer_expressions.proofs.OpenedForms.{lambda_answers, lambda_refused, let_answers, let_refused, empty_listed, none_of}
use Rattle.hm_infer_context.proofs.States.{problem_below}
use Rattle.hm_infer_context.proofs.MatchedForms.{numbers_given, number_given}
use Rattle.hm_infer_expressions.proofs.Derived.{AnswersExpression, Checks, ChecksAll, expression_is, literal_checked, if_answers, if_refused_second, tuple_checked, tuple_unchecked, list_checked, list_unchecked, row_nothing, row_more, row_unchecked, row_all, solved_grows, size_of_item, moved_solved, moved_refused, moved_answers, assumed_at, type_at, given_next, first_given, parts_assumed, refused_by, row_number}
use Rattle.hm_infer_expressions.proofs.Choices.{choices_none, choices_more, choices_refused, choices_all, choices_moved, case_answers, case_refused, expression_positive, size_of_part, size_of_choice}
use Rattle.hm_infer_dependencies.proofs.Rows.{declaration_falls}
use Rattle.hm_infer_context.proofs.Outcomes.{SolvedBy, solved_nothing}
use Rattle.hm_graph_components.specs.Digraph.{lists}
use Rattle.hm_infer_expressions.specs.OpenGroups.{AreUpTo, IsOpenGroup, IsClosedGroup}
use Rattle.hm_infer_expressions.proofs.ListSteps.{GroupsInferred, is_zero, list_refused, group_below, group_some, zeroes_up_to, group_at, rows_long, written_to, listed_passed, next_stage}
use Rattle.std.proofs.lemmas.List.{length-map}
use Rattle.hm_infer_dependencies.specs.Groups.{node_name}
use Rattle.hm_infer_expressions.specs.Stages.{list_of}
use Rattle.hm_unify.proofs.WellFormed.{well_formed_more}
use Rattle.hm_unify.specs.Levels.{is_outer}
use Rattle.hm_infer_generalisation.specs.Generalisations.{KeepsNone}
use Rattle.hm_infer_expressions.proofs.GroupEnds.{closes_group, none_older, group_members_are, infers_refused, infers_solved, infers_passed, given_up_to}
use Rattle.hm_infer_expressions.proofs.NodeTypes.{types_later}
use Rattle.hm_infer_expressions.proofs.MemberForms.{answers_grow, later_grow, same_member, is_member, declaration_at, AsksMember, clause_member, pattern_member, members_none, members_more, members_refused, members_all}
use Rattle.hm_infer_expressions.proofs.Sides.{ChecksClause, clause_answers, ChecksChoice, ChecksChoices, choice_answers, choice_refused, body_is, plain_answers, guarded_answers, ChecksBodies, bodies_none, bodies_more, bodies_refused, bodies_all, ChecksSide, side_answers, side_refused}
use Rattle.hm_infer_expressions.proofs.TypedForms.{IsTaken, at_each, escape_refused, inner_refused, typed_answers, typed_refused}
use Rattle.std.specs.Prelude.{option_map}
use Rattle.hm_names.specs.Types.{declared_type}
use Rattle.hm_infer_expressions.proofs.SignedNames.{is_other}
use Rattle.hm_infer_expressions.proofs.SignedForms.{SignedAsks, clause_escapes, clause_refused, clause_signed, other_asked, unsigned_asked}
use Rattle.hm_infer_expressions.proofs.SignedSteps.{SignedAll, signed_done, signed_nothing, signed_refused, signed_step}
use Rattle.hm_infer_expressions.proofs.SignedLists.{signed_end, signed_end_refused, signed_start}
use Rattle.hm_infer_context.proofs.Extended.{extended}
use Rattle.hm_infer_context.specs.Inferred.{IsInferred, IsTyped}
use Rattle.hm_infer_context.proofs.Inferred.{refusal_passed}
use Rattle.hm_infer_expressions.specs.ExpressionTypes.{HasType}
use Rattle.hm_infer_expressions.proofs.Applied.{application_inferred, argument_unfit, checked_answers, checked_unequal, checked_unfit, checked_unknown, function_unfit, function_unknown, memory_refuses, other_inferred, other_refused}
use Rattle.hm_infer_expressions.proofs.expressions.+checking.Goals as goal

pub check_expression-check_application-requires : goal.check_expression-check_application-requires
check_expression-check_application-requires t c =
    let z = ap expression_size (sym (ap tree_of c.in-Apply.is) ∙ c.e.view_is) in
    let f = ap expression_size c.deref.ensures in
    let a = ap expression_size c.deref-in-Apply.ensures in
    let smaller : 8 * expression_size c.deref.result.now + (8 * expression_size c.deref-in-Apply.result.now + 3) < 8 * expression_size c.args.e.now = omega (arith, z, f, a) in
    (search rules, (c.requires.given, c.requires.assumed))

pub check_expression-returns-in-Apply-clause-answers : goal.check_expression-returns-in-Apply-clause-answers
check_expression-returns-in-Apply-clause-answers t c =
    expression_is (known_of c.args.constructors.now) (application c.deref.result.now c.deref-in-Apply.result.now) c.args.e.now (type_of c.args.t.now) c.args.inference.now.environment c.args.inference.now.solver c.check_application.new.inference.solver c.check_application.result (ap₂ application c.deref.ensures c.deref-in-Apply.ensures ∙ (sym (ap tree_of c.in-Apply.is) ∙ c.e.view_is)) c.check_application.ensures.answers

pub check_application-infer_function-requires : goal.check_application-infer_function-requires
check_application-infer_function-requires t c =
    let smaller : 8 * expression_size c.args.function.now + 2 < 8 * expression_size c.args.function.now + (8 * expression_size c.args.argument.now + 3) = omega arith in
    (search rules, c.requires.assumed)

pub check_application-returns-in_err-found-clause-answers : goal.check_application-returns-in_err-found-clause-answers
check_application-returns-in_err-found-clause-answers t c =
    let known = known_of c.args.constructors.now in
    refused_by (Checks known (application c.args.function.now c.args.argument.now) (type_of c.args.t.now) c.args.inference.now.environment) c.args.inference.now.solver c.infer_function.new.inference.solver c.from_residual.result c.in_err-found.field-0.0 c.from_residual.ensures.1
    (checked_unknown known c.args.function.now c.args.argument.now (type_of c.args.t.now) c.args.inference.now.environment c.args.inference.now.solver c.requires.assumed c.requires.given c.in_err-found.field-0.0 c.in_err-found.ensures.refused)

pub check_application-returns-in_err-parts-clause-answers : goal.check_application-returns-in_err-parts-clause-answers
check_application-returns-in_err-parts-clause-answers t c =
    let known = known_of c.args.constructors.now in
    refused_by (Checks known (application c.args.function.now c.args.argument.now) (type_of c.args.t.now) c.args.inference.now.environment) c.args.inference.now.solver c.split_function.new.solver c.from_residual-in_err-parts.result c.in_err-parts.field-0.0 c.from_residual-in_err-parts.ensures.1
    (checked_unfit known c.args.function.now c.args.argument.now (type_of c.args.t.now) c.args.inference.now.environment c.args.inference.now.solver c.requires.assumed c.requires.given (type_of c.in_ok-found.found) c.infer_function.new.inference.solver c.in_ok-found.ensures.inferred c.in_err-parts.field-0.0 c.in_err-parts.ensures.refused)

pub check_application-equate-requires-clause-left : goal.check_application-equate-requires-clause-left
check_application-equate-requires-clause-left t c =
    let g = c.in_ok-found.ensures.inferred.grows in
    let h = c.in_ok-parts.ensures.parts.grows in
    well_formed_more c.args.inference.now.solver.given c.split_function.new.solver.given (type_of c.args.t.now) (omega (arith, g, h)) c.requires.given

pub check_application-equate-requires-clause-right : goal.check_application-equate-requires-clause-right
check_application-equate-requires-clause-right t c = c.in_ok-parts.ensures.given.1

pub check_application-returns-in_err-equate-clause-answers : goal.check_application-returns-in_err-equate-clause-answers
check_application-returns-in_err-equate-clause-answers t c =
    let known = known_of c.args.constructors.now in
    refused_by (Checks known (application c.args.function.now c.args.argument.now) (type_of c.args.t.now) c.args.inference.now.environment) c.args.inference.now.solver c.equate.new.solver c.from_residual-in_err-equate.result c.in_err-equate.field-0.0 c.from_residual-in_err-equate.ensures.1
    (checked_unequal known c.args.function.now c.args.argument.now (type_of c.args.t.now) c.args.inference.now.environment c.args.inference.now.solver c.requires.assumed c.requires.given (type_of c.in_ok-found.found) c.infer_function.new.inference.solver c.in_ok-found.ensures.inferred (type_of c.in_ok-parts.parts.argument) (type_of c.in_ok-parts.parts.outcome) c.split_function.new.solver c.in_ok-parts.ensures.parts c.in_err-equate.field-0.0 c.in_err-equate.ensures.answers)

pub check_application-check_expression-requires : goal.check_application-check_expression-requires
check_application-check_expression-requires t c =
    let smaller : 8 * expression_size c.args.argument.now < 8 * expression_size c.args.function.now + (8 * expression_size c.args.argument.now + 3) = omega arith in
    let g = c.in_ok-found.ensures.inferred.grows in
    let h = c.in_ok-parts.ensures.parts.grows in
    let k = solved_grows _ c.split_function.new.solver c.equate.new.solver c.in_ok-equate.ensures.answers in
    (search rules, (well_formed_more c.split_function.new.solver.given c.equate.new.solver.given (type_of c.in_ok-parts.parts.argument) k c.in_ok-parts.ensures.given.0, assumed_at c.args.inference.now.solver c.equate.new.solver c.args.inference.now.environment c.infer_function.new.inference.environment c.in_ok-found.ensures.same (omega (arith, g, h, k)) c.requires.assumed))

pub check_application-returns-clause-answers : goal.check_application-returns-clause-answers
check_application-returns-clause-answers t c =
    let known = known_of c.args.constructors.now in
    let g = c.in_ok-found.ensures.inferred.grows in
    let h = c.in_ok-parts.ensures.parts.grows in
    checked_answers known c.args.function.now c.args.argument.now (type_of c.args.t.now) c.args.inference.now.environment c.args.inference.now.solver c.requires.assumed c.requires.given (type_of c.in_ok-found.found) c.infer_function.new.inference.solver c.in_ok-found.ensures.inferred (type_of c.in_ok-parts.parts.argument) (type_of c.in_ok-parts.parts.outcome) c.split_function.new.solver c.in_ok-parts.ensures.parts c.equate.new.solver
    (assumed_at c.args.inference.now.solver c.split_function.new.solver c.args.inference.now.environment c.args.inference.now.environment refl (omega (arith, g, h)) c.requires.assumed) c.in_ok-parts.ensures.given.0 c.in_ok-equate.ensures.answers c.check_expression.new.inference.solver c.check_expression.result
    (moved_answers known c.args.argument.now c.args.argument.now (type_of c.in_ok-parts.parts.argument) c.args.inference.now.environment c.infer_function.new.inference.environment c.equate.new.solver c.check_expression.new.inference.solver c.check_expression.result c.in_ok-found.ensures.same refl c.check_expression.ensures.answers)

pub infer_application-infer_function-requires : goal.infer_application-infer_function-requires
infer_application-infer_function-requires t c =
    let smaller : 8 * expression_size c.args.function.now + 2 < 8 * expression_size c.args.function.now + (8 * expression_size c.args.argument.now + 3) = omega arith in
    (search rules, c.requires.assumed)

pub infer_application-returns-in_err-found-clause-refused : goal.infer_application-returns-in_err-found-clause-refused
infer_application-returns-in_err-found-clause-refused t c =
    let known = known_of c.args.constructors.now in
    refusal_passed (IsTyped (HasType known (application c.args.function.now c.args.argument.now) c.args.inference.now.environment)) c.args.inference.now.solver c.from_residual.result c.in_err-found.field-0.0 c.from_residual.ensures.1
    (function_unknown known c.args.function.now c.args.argument.now c.args.inference.now.environment c.args.inference.now.solver c.requires.assumed c.in_err-found.field-0.0 c.in_err-found.ensures.refused)

pub infer_application-returns-in_err-parts-clause-refused : goal.infer_application-returns-in_err-parts-clause-refused
infer_application-returns-in_err-parts-clause-refused t c =
    let known = known_of c.args.constructors.now in
    refusal_passed (IsTyped (HasType known (application c.args.function.now c.args.argument.now) c.args.inference.now.environment)) c.args.inference.now.solver c.from_residual-in_err-parts.result c.in_err-parts.field-0.0 c.from_residual-in_err-parts.ensures.1
    (function_unfit known c.args.function.now c.args.argument.now c.args.inference.now.environment c.args.inference.now.solver c.requires.assumed (type_of c.in_ok-found.found) c.infer_function.new.inference.solver c.in_ok-found.ensures.inferred c.in_err-parts.field-0.0 c.in_err-parts.ensures.refused)

pub infer_application-check_expression-requires : goal.infer_application-check_expression-requires
infer_application-check_expression-requires t c =
    let smaller : 8 * expression_size c.args.argument.now < 8 * expression_size c.args.function.now + (8 * expression_size c.args.argument.now + 3) = omega arith in
    let g = c.in_ok-found.ensures.inferred.grows in
    let h = c.in_ok-parts.ensures.parts.grows in
    (search rules, (c.in_ok-parts.ensures.given.0, assumed_at c.args.inference.now.solver c.split_function.new.solver c.args.inference.now.environment c.infer_function.new.inference.environment c.in_ok-found.ensures.same (omega (arith, g, h)) c.requires.assumed))

pub infer_application-returns-in_err-check_expression-clause-refused : goal.infer_application-returns-in_err-check_expression-clause-refused
infer_application-returns-in_err-check_expression-clause-refused t c =
    let known = known_of c.args.constructors.now in
    refusal_passed (IsTyped (HasType known (application c.args.function.now c.args.argument.now) c.args.inference.now.environment)) c.args.inference.now.solver c.from_residual-in_err-check_expression.result c.in_err-check_expression.field-0.0 c.from_residual-in_err-check_expression.ensures.1
    (argument_unfit known c.args.function.now c.args.argument.now c.args.inference.now.environment c.args.inference.now.solver c.requires.assumed (type_of c.in_ok-found.found) c.infer_function.new.inference.solver c.in_ok-found.ensures.inferred (type_of c.in_ok-parts.parts.argument) (type_of c.in_ok-parts.parts.outcome) c.split_function.new.solver c.in_ok-parts.ensures.parts c.in_err-check_expression.field-0.0
    (moved_refused known c.args.argument.now c.args.argument.now (type_of c.in_ok-parts.parts.argument) c.args.inference.now.environment c.infer_function.new.inference.environment c.split_function.new.solver c.in_err-check_expression.field-0.0 c.in_ok-found.ensures.same refl c.in_err-check_expression.ensures.answers))

pub infer_application-returns-clause-inferred : goal.infer_application-returns-clause-inferred
infer_application-returns-clause-inferred t c =
    let known = known_of c.args.constructors.now in
    subst (λ u. IsInferred (HasType known (application c.args.function.now c.args.argument.now) c.args.inference.now.environment) c.args.inference.now.solver c.check_expression.new.inference.solver (type_of u)) (sym c.into_outcome.ensures)
    (application_inferred known c.args.function.now c.args.argument.now c.args.inference.now.environment c.args.inference.now.solver c.requires.assumed (type_of c.in_ok-found.found) c.infer_function.new.inference.solver c.in_ok-found.ensures.inferred (type_of c.in_ok-parts.parts.argument) (type_of c.in_ok-parts.parts.outcome) c.split_function.new.solver c.in_ok-parts.ensures.parts c.check_expression.new.inference.solver c.in_ok-parts.ensures.given.1
    (moved_solved known c.args.argument.now c.args.argument.now (type_of c.in_ok-parts.parts.argument) c.args.inference.now.environment c.infer_function.new.inference.environment c.split_function.new.solver c.check_expression.new.inference.solver c.in_ok-found.ensures.same refl c.in_ok-check_expression.ensures.answers)
    )

pub infer_application-returns-clause-given : goal.infer_application-returns-clause-given
infer_application-returns-clause-given t c =
    subst (λ u. IsWellFormed c.check_expression.new.inference.solver.given (type_of u)) (sym c.into_outcome.ensures)
    (well_formed_more c.split_function.new.solver.given c.check_expression.new.inference.solver.given (type_of c.in_ok-parts.parts.outcome) (solved_grows _ c.split_function.new.solver c.check_expression.new.inference.solver c.in_ok-check_expression.ensures.answers) c.in_ok-parts.ensures.given.1
    )

pub infer_function-infer_application-requires : goal.infer_function-infer_application-requires
infer_function-infer_application-requires t c =
    let z = ap expression_size (sym (ap tree_of c.in-Apply.is) ∙ c.e.view_is) in
    let f = ap expression_size c.deref.ensures in
    let a = ap expression_size c.deref-in-Apply.ensures in
    let smaller : 8 * expression_size c.deref.result.now + (8 * expression_size c.deref-in-Apply.result.now + 3) < 8 * expression_size c.args.e.now + 2 = omega (arith, z, f, a) in
    (search rules, c.requires.assumed)

pub infer_function-infer_other-requires : goal.infer_function-infer_other-requires
infer_function-infer_other-requires t c =
    let smaller : 8 * expression_size c.args.e.now + 1 < 8 * expression_size c.args.e.now + 2 = omega arith in
    (search rules, c.requires.assumed)

pub infer_function-returns-in-Var-clause-inferred : goal.infer_function-returns-in-Var-clause-inferred
infer_function-returns-in-Var-clause-inferred t c =
    subst (λ k. IfOk c.name_instance.result (λ u. IsInferred (HasType (known_of c.args.constructors.now) k c.args.inference.now.environment) c.args.inference.now.solver c.name_instance.new.solver (type_of u))) (sym (ap tree_of c.in-Var.is) ∙ c.e.view_is) c.name_instance.ensures.inferred

pub infer_function-returns-in-Var-clause-refused : goal.infer_function-returns-in-Var-clause-refused
infer_function-returns-in-Var-clause-refused t c =
    subst (λ k. IfErr c.name_instance.result (Refuses (IsTyped (HasType (known_of c.args.constructors.now) k c.args.inference.now.environment)) c.args.inference.now.solver)) (sym (ap tree_of c.in-Var.is) ∙ c.e.view_is) c.name_instance.ensures.refused

pub infer_function-returns-in-Con-clause-inferred : goal.infer_function-returns-in-Con-clause-inferred
infer_function-returns-in-Con-clause-inferred t c =
    subst (λ k. IfOk c.constructor_instance.result (λ u. IsInferred (HasType (known_of c.args.constructors.now) k c.args.inference.now.environment) c.args.inference.now.solver c.constructor_instance.new.solver (type_of u))) (sym (ap tree_of c.in-Con.is) ∙ c.e.view_is) c.constructor_instance.ensures.inferred

pub infer_function-returns-in-Con-clause-refused : goal.infer_function-returns-in-Con-clause-refused
infer_function-returns-in-Con-clause-refused t c = memory_refuses (IsTyped (HasType (known_of c.args.constructors.now) c.args.e.now c.args.inference.now.environment)) c.args.inference.now.solver c.constructor_instance.result c.constructor_instance.ensures.refused

pub infer_function-returns-in-Apply-clause-inferred : goal.infer_function-returns-in-Apply-clause-inferred
infer_function-returns-in-Apply-clause-inferred t c =
    subst (λ k. IfOk c.infer_application.result (λ u. IsInferred (HasType (known_of c.args.constructors.now) k c.args.inference.now.environment) c.args.inference.now.solver c.infer_application.new.inference.solver (type_of u))) (ap₂ application c.deref.ensures c.deref-in-Apply.ensures ∙ (sym (ap tree_of c.in-Apply.is) ∙ c.e.view_is)) c.infer_application.ensures.inferred

pub infer_function-returns-in-Apply-clause-refused : goal.infer_function-returns-in-Apply-clause-refused
infer_function-returns-in-Apply-clause-refused t c =
    subst (λ k. IfErr c.infer_application.result (Refuses (IsTyped (HasType (known_of c.args.constructors.now) k c.args.inference.now.environment)) c.args.inference.now.solver)) (ap₂ application c.deref.ensures c.deref-in-Apply.ensures ∙ (sym (ap tree_of c.in-Apply.is) ∙ c.e.view_is)) c.infer_application.ensures.refused

pub infer_other-check_expression-requires : goal.infer_other-check_expression-requires
infer_other-check_expression-requires t c =
    let f = first_given c.args.inference.now.solver c.new_variables.new.solver c.in_ok-own.own c.in_ok-own.ensures.next c.in_ok-own.ensures.first in
    let k = given_next c.args.inference.now.solver c.new_variables.new.solver 1 c.in_ok-own.ensures.next in
    let smaller : 8 * expression_size c.args.e.now < 8 * expression_size c.args.e.now + 1 = omega arith in
    (search rules, (f, assumed_at c.args.inference.now.solver c.new_variables.new.solver c.args.inference.now.environment c.args.inference.now.environment refl k c.requires.assumed))

pub infer_other-returns-in_err-check_expression-clause-refused : goal.infer_other-returns-in_err-check_expression-clause-refused
infer_other-returns-in_err-check_expression-clause-refused t c =
    let known = known_of c.args.constructors.now in
    refusal_passed (IsTyped (HasType known c.args.e.now c.args.inference.now.environment)) c.args.inference.now.solver c.from_residual-in_err-check_expression.result c.in_err-check_expression.field-0.0 c.from_residual-in_err-check_expression.ensures.1
    (other_refused known c.args.e.now c.in_ok-own.own c.args.inference.now.environment c.args.inference.now.solver c.new_variables.new.solver c.in_err-check_expression.field-0.0 c.in_ok-own.ensures.below c.requires.assumed c.in_ok-own.ensures.next c.in_ok-own.ensures.first c.in_err-check_expression.ensures.answers)

pub infer_other-returns-clause-inferred : goal.infer_other-returns-clause-inferred
infer_other-returns-clause-inferred t c =
    other_inferred (known_of c.args.constructors.now) c.args.e.now c.in_ok-own.own c.args.inference.now.environment c.args.inference.now.solver c.new_variables.new.solver c.check_expression.new.inference.solver c.in_ok-own.ensures.below c.requires.assumed c.in_ok-own.ensures.next c.in_ok-own.ensures.first c.in_ok-check_expression.ensures.answers

pub infer_other-returns-clause-given : goal.infer_other-returns-clause-given
infer_other-returns-clause-given t c =
    let f = first_given c.args.inference.now.solver c.new_variables.new.solver c.in_ok-own.own c.in_ok-own.ensures.next c.in_ok-own.ensures.first in
    let l = solved_grows _ c.new_variables.new.solver c.check_expression.new.inference.solver c.in_ok-check_expression.ensures.answers in
    omega (arith, f, l)

pub check_expression-check_expression-requires-in-If : goal.check_expression-check_expression-requires-in-If
check_expression-check_expression-requires-in-If t c =
    let z = ap expression_size (sym (ap tree_of c.in-If.is) ∙ c.e.view_is) in
    let y = ap expression_size c.deref-in-If-2.ensures in
    let smaller : expression_size c.deref-in-If-2.result.now < expression_size c.args.e.now = omega (arith, z, y) in
    let l = solved_grows _ c.args.inference.now.solver c.check_expression.new.inference.solver c.in_ok-check_expression-in-If.ensures.answers in
    (search rules, (type_at c.args.inference.now.solver c.check_expression.new.inference.solver (type_of c.args.t.now) l c.requires.given, assumed_at c.args.inference.now.solver c.check_expression.new.inference.solver c.args.inference.now.environment c.check_expression.new.inference.environment c.in_ok-check_expression-in-If.ensures.same l c.requires.assumed))

pub check_expression-returns-in_err-check_expression-in-If-2-clause-answers : goal.check_expression-returns-in_err-check_expression-in-If-2-clause-answers
check_expression-returns-in_err-check_expression-in-If-2-clause-answers t c =
    expression_is (known_of c.args.constructors.now) (if_expression c.in-If.condition.value c.in-If.one.value c.in-If.other.value) c.args.e.now (type_of c.args.t.now) c.args.inference.now.environment c.args.inference.now.solver c.check_expression-in-If.new.inference.solver c.from_residual-in_err-check_expression-in-If-2.result (sym (ap tree_of c.in-If.is) ∙ c.e.view_is)
    (refused_by (Checks (known_of c.args.constructors.now) (if_expression c.in-If.condition.value c.in-If.one.value c.in-If.other.value) (type_of c.args.t.now) c.args.inference.now.environment) c.args.inference.now.solver c.check_expression-in-If.new.inference.solver c.from_residual-in_err-check_expression-in-If-2.result c.in_err-check_expression-in-If-2.field-0.0 c.from_residual-in_err-check_expression-in-If-2.ensures.1
    (if_refused_second (known_of c.args.constructors.now) c.in-If.condition.value c.in-If.one.value c.in-If.other.value (type_of c.args.t.now) (type_of c.truth-wanted.result.now) c.args.inference.now.environment c.args.inference.now.solver c.check_expression.new.inference.solver c.in_err-check_expression-in-If-2.field-0.0 c.requires.assumed c.requires.given c.truth-wanted.ensures.shape (moved_solved (known_of c.args.constructors.now) c.deref-in-If.result.now c.in-If.condition.value (type_of c.truth-wanted.result.now) c.args.inference.now.environment c.args.inference.now.environment c.args.inference.now.solver c.check_expression.new.inference.solver refl c.deref-in-If.ensures c.in_ok-check_expression-in-If.ensures.answers)
    (moved_refused (known_of c.args.constructors.now) c.deref-in-If-2.result.now c.in-If.one.value (type_of c.args.t.now) c.args.inference.now.environment c.check_expression.new.inference.environment c.check_expression.new.inference.solver c.in_err-check_expression-in-If-2.field-0.0 c.in_ok-check_expression-in-If.ensures.same c.deref-in-If-2.ensures c.in_err-check_expression-in-If-2.ensures.answers)))

pub check_expression-check_expression-requires-in-If-2 : goal.check_expression-check_expression-requires-in-If-2
check_expression-check_expression-requires-in-If-2 t c =
    let z = ap expression_size (sym (ap tree_of c.in-If.is) ∙ c.e.view_is) in
    let y = ap expression_size c.deref-in-If-3.ensures in
    let smaller : expression_size c.deref-in-If-3.result.now < expression_size c.args.e.now = omega (arith, z, y) in
    let l = solved_grows _ c.args.inference.now.solver c.check_expression.new.inference.solver c.in_ok-check_expression-in-If.ensures.answers in
    let k = solved_grows _ c.check_expression.new.inference.solver c.check_expression-in-If.new.inference.solver c.in_ok-check_expression-in-If-2.ensures.answers in
    (search rules, (type_at c.args.inference.now.solver c.check_expression-in-If.new.inference.solver (type_of c.args.t.now) (omega (arith, l, k)) c.requires.given, assumed_at c.args.inference.now.solver c.check_expression-in-If.new.inference.solver c.args.inference.now.environment c.check_expression-in-If.new.inference.environment (c.in_ok-check_expression-in-If-2.ensures.same ∙ c.in_ok-check_expression-in-If.ensures.same) (omega (arith, l, k)) c.requires.assumed))

pub check_expression-returns-in_ok-check_expression-in-If-2-clause-answers : goal.check_expression-returns-in_ok-check_expression-in-If-2-clause-answers
check_expression-returns-in_ok-check_expression-in-If-2-clause-answers t c =
    expression_is (known_of c.args.constructors.now) (if_expression c.in-If.condition.value c.in-If.one.value c.in-If.other.value) c.args.e.now (type_of c.args.t.now) c.args.inference.now.environment c.args.inference.now.solver c.check_expression-in-If-2.new.inference.solver c.check_expression-in-If-2.result (sym (ap tree_of c.in-If.is) ∙ c.e.view_is)
    (if_answers (known_of c.args.constructors.now) c.in-If.condition.value c.in-If.one.value c.in-If.other.value (type_of c.args.t.now) (type_of c.truth-wanted.result.now) c.args.inference.now.environment c.args.inference.now.solver c.check_expression.new.inference.solver c.check_expression-in-If.new.inference.solver c.check_expression-in-If-2.new.inference.solver c.check_expression-in-If-2.result c.requires.assumed c.requires.given c.truth-wanted.ensures.shape (solved_grows _ c.args.inference.now.solver c.check_expression.new.inference.solver c.in_ok-check_expression-in-If.ensures.answers) (moved_solved (known_of c.args.constructors.now) c.deref-in-If.result.now c.in-If.condition.value (type_of c.truth-wanted.result.now) c.args.inference.now.environment c.args.inference.now.environment c.args.inference.now.solver c.check_expression.new.inference.solver refl c.deref-in-If.ensures c.in_ok-check_expression-in-If.ensures.answers) (moved_solved (known_of c.args.constructors.now) c.deref-in-If-2.result.now c.in-If.one.value (type_of c.args.t.now) c.args.inference.now.environment c.check_expression.new.inference.environment c.check_expression.new.inference.solver c.check_expression-in-If.new.inference.solver c.in_ok-check_expression-in-If.ensures.same c.deref-in-If-2.ensures c.in_ok-check_expression-in-If-2.ensures.answers)
    (moved_answers (known_of c.args.constructors.now) c.deref-in-If-3.result.now c.in-If.other.value (type_of c.args.t.now) c.args.inference.now.environment c.check_expression-in-If.new.inference.environment c.check_expression-in-If.new.inference.solver c.check_expression-in-If-2.new.inference.solver c.check_expression-in-If-2.result (c.in_ok-check_expression-in-If-2.ensures.same ∙ c.in_ok-check_expression-in-If.ensures.same) c.deref-in-If-3.ensures c.check_expression-in-If-2.ensures.answers))

pub check_expression-returns-in_err-first-in-Tuple-clause-answers : goal.check_expression-returns-in_err-first-in-Tuple-clause-answers
check_expression-returns-in_err-first-in-Tuple-clause-answers t c =
    expression_is (known_of c.args.constructors.now) (tuple_expression (expressions c.in-Tuple.parts.items)) c.args.e.now (type_of c.args.t.now) c.args.inference.now.environment c.args.inference.now.solver c.tuple_parts.new.solver c.from_residual-in_err-first-in-Tuple.result (sym (ap tree_of c.in-Tuple.is) ∙ c.e.view_is)
    (refused_by (Checks (known_of c.args.constructors.now) (tuple_expression (expressions c.in-Tuple.parts.items)) (type_of c.args.t.now) c.args.inference.now.environment) c.args.inference.now.solver c.tuple_parts.new.solver c.from_residual-in_err-first-in-Tuple.result c.in_err-first-in-Tuple.field-0.0 c.from_residual-in_err-first-in-Tuple.ensures.1 (tuple_unchecked (known_of c.args.constructors.now) c.in-Tuple.parts.items c.len.result (type_of c.args.t.now) c.args.inference.now.environment c.args.inference.now.solver c.in_err-first-in-Tuple.field-0.0 (omega (arith, c.len.ensures, c.in-Tuple.parts.ok.0)) c.in_err-first-in-Tuple.ensures.below c.requires.assumed c.requires.given c.in_err-first-in-Tuple.ensures.answers))

pub check_expression-check_expressions-requires : goal.check_expression-check_expressions-requires
check_expression-check_expressions-requires t c =
    let z = ap expression_size (sym (ap tree_of c.in-Tuple.is) ∙ c.e.view_is) in
    let y = ap (λ ps. expressions_size (expressions ps)) c.deref-in-Tuple.ensures.value in
    let smaller : expressions_size (expressions c.deref-in-Tuple.result.now) < expression_size c.args.e.now = omega (arith, z, y) in
    (search rules, ((λ j h. numbers_given _ c.args.inference.now.solver c.tuple_parts.new.solver c.len.result c.in_ok-first-in-Tuple.first c.in_ok-first-in-Tuple.ensures.answers c.in_ok-first-in-Tuple.ensures.first j (omega (arith, h, c.deref-in-Tuple.ensures.len, c.len.ensures))), (omega (arith, c.in_ok-first-in-Tuple.ensures.fits, c.deref-in-Tuple.ensures.len, c.len.ensures), parts_assumed _ c.args.inference.now.solver c.tuple_parts.new.solver c.len.result c.args.inference.now.environment c.in_ok-first-in-Tuple.ensures.answers c.requires.assumed)))

pub check_expression-returns-in_ok-first-in-Tuple-clause-answers : goal.check_expression-returns-in_ok-first-in-Tuple-clause-answers
check_expression-returns-in_ok-first-in-Tuple-clause-answers t c =
    expression_is (known_of c.args.constructors.now) (tuple_expression (expressions c.in-Tuple.parts.items)) c.args.e.now (type_of c.args.t.now) c.args.inference.now.environment c.args.inference.now.solver c.check_expressions.new.inference.solver c.check_expressions.result (sym (ap tree_of c.in-Tuple.is) ∙ c.e.view_is)
    (tuple_checked (known_of c.args.constructors.now) c.in-Tuple.parts.items c.deref-in-Tuple.result.now c.len.result c.in_ok-first-in-Tuple.first (type_of c.args.t.now) c.args.inference.now.environment c.args.inference.now.solver c.tuple_parts.new.solver c.check_expressions.new.inference.solver c.check_expressions.result (omega (arith, c.len.ensures, c.in-Tuple.parts.ok.0)) c.deref-in-Tuple.ensures.value c.in_ok-first-in-Tuple.ensures.below c.requires.assumed c.requires.given c.in_ok-first-in-Tuple.ensures.first c.in_ok-first-in-Tuple.ensures.answers c.check_expressions.ensures.answers)

pub check_expression-returns-in_err-first-in-List-clause-answers : goal.check_expression-returns-in_err-first-in-List-clause-answers
check_expression-returns-in_err-first-in-List-clause-answers t c =
    expression_is (known_of c.args.constructors.now) (list_expression (expressions c.in-List.parts.items)) c.args.e.now (type_of c.args.t.now) c.args.inference.now.environment c.args.inference.now.solver c.list_part.new.solver c.from_residual-in_err-first-in-List.result (sym (ap tree_of c.in-List.is) ∙ c.e.view_is)
    (refused_by (Checks (known_of c.args.constructors.now) (list_expression (expressions c.in-List.parts.items)) (type_of c.args.t.now) c.args.inference.now.environment) c.args.inference.now.solver c.list_part.new.solver c.from_residual-in_err-first-in-List.result c.in_err-first-in-List.field-0.0 c.from_residual-in_err-first-in-List.ensures.1 (list_unchecked (known_of c.args.constructors.now) c.in-List.parts.items (type_of c.args.t.now) c.args.inference.now.environment c.args.inference.now.solver c.in_err-first-in-List.field-0.0 c.in_err-first-in-List.ensures.below c.requires.assumed c.requires.given c.in_err-first-in-List.ensures.answers))

pub check_expression-check_expressions-requires-in-List : goal.check_expression-check_expressions-requires-in-List
check_expression-check_expressions-requires-in-List t c =
    let z = ap expression_size (sym (ap tree_of c.in-List.is) ∙ c.e.view_is) in
    let y = ap (λ ps. expressions_size (expressions ps)) c.deref-in-List.ensures.value in
    let smaller : expressions_size (expressions c.deref-in-List.result.now) < expression_size c.args.e.now = omega (arith, z, y) in
    (search rules, (number_given _ c.args.inference.now.solver c.list_part.new.solver c.in_ok-first-in-List.first _ c.in_ok-first-in-List.ensures.answers c.in_ok-first-in-List.ensures.first, (omega (arith, c.in_ok-first-in-List.ensures.fits), parts_assumed _ c.args.inference.now.solver c.list_part.new.solver 1 c.args.inference.now.environment c.in_ok-first-in-List.ensures.answers c.requires.assumed)))

pub check_expression-returns-in_ok-first-in-List-clause-answers : goal.check_expression-returns-in_ok-first-in-List-clause-answers
check_expression-returns-in_ok-first-in-List-clause-answers t c =
    expression_is (known_of c.args.constructors.now) (list_expression (expressions c.in-List.parts.items)) c.args.e.now (type_of c.args.t.now) c.args.inference.now.environment c.args.inference.now.solver c.check_expressions-in-List.new.inference.solver c.check_expressions-in-List.result (sym (ap tree_of c.in-List.is) ∙ c.e.view_is)
    (list_checked (known_of c.args.constructors.now) c.in-List.parts.items c.deref-in-List.result.now c.in_ok-first-in-List.first (type_of c.args.t.now) c.args.inference.now.environment c.args.inference.now.solver c.list_part.new.solver c.check_expressions-in-List.new.inference.solver c.check_expressions-in-List.result c.deref-in-List.ensures.value c.in_ok-first-in-List.ensures.below c.requires.assumed c.requires.given c.in_ok-first-in-List.ensures.first c.in_ok-first-in-List.ensures.answers c.check_expressions-in-List.ensures.answers)

pub check_expression-returns-in-Var-clause-answers : goal.check_expression-returns-in-Var-clause-answers
check_expression-returns-in-Var-clause-answers t c =
    expression_is (known_of c.args.constructors.now) (variable_expression c.in-Var.name) c.args.e.now (type_of c.args.t.now) c.args.inference.now.environment c.args.inference.now.solver c.check_name.new.solver c.check_name.result (sym (ap tree_of c.in-Var.is) ∙ c.e.view_is) c.check_name.ensures

pub check_expression-returns-in-Con-clause-answers : goal.check_expression-returns-in-Con-clause-answers
check_expression-returns-in-Con-clause-answers t c =
    expression_is (known_of c.args.constructors.now) (constructor_expression c.in-Con.name) c.args.e.now (type_of c.args.t.now) c.args.inference.now.environment c.args.inference.now.solver c.check_constructor.new.solver c.check_constructor.result (sym (ap tree_of c.in-Con.is) ∙ c.e.view_is) c.check_constructor.ensures

pub check_expression-returns-in_ok-own-in-Literal-clause-answers : goal.check_expression-returns-in_ok-own-in-Literal-clause-answers
check_expression-returns-in_ok-own-in-Literal-clause-answers t c =
    expression_is (known_of c.args.constructors.now) (literal_expression c.in-Literal.literal) c.args.e.now (type_of c.args.t.now) c.args.inference.now.environment c.args.inference.now.solver c.equate.new.solver c.equate.result (sym (ap tree_of c.in-Literal.is) ∙ c.e.view_is)
    (literal_checked (known_of c.args.constructors.now) c.in-Literal.literal (type_of c.args.t.now) (type_of c.in_ok-own-in-Literal.own) c.args.inference.now.environment c.args.inference.now.solver c.equate.new.solver c.equate.result c.in_ok-own-in-Literal.ensures.shape c.equate.ensures.answers)

pub check_expressions-parts-init : goal.check_expressions-parts-init
check_expressions-parts-init t c =
    record { same = refl; checked = row_nothing (known_of c.args.constructors.now) c.args.parts.now (is_one c.args.types) (first_of c.args.types) c.args.inference.now.environment c.args.inference.now.solver (problem_below c.args.inference.now.solver c.well_formed-2.ensures) }

pub check_expressions-check_expression-requires : goal.check_expressions-check_expression-requires
check_expressions-check_expression-requires t c =
    let l = solved_grows _ c.args.inference.now.solver c.parts.inference.solver c.parts.invariant.checked in
    let smaller : expression_size c.index-parts-j.result < expressions_size (expressions c.args.parts.now) = size_of_item c.args.parts.now c.parts.j c.index-parts-j.result c.parts-test.true c.index-parts-j.is in
    (search rules, (row_number c.args.inference.now.solver c.parts.inference.solver c.at-number.result c.args.parts.now c.parts.j (is_one c.args.types) (first_of c.args.types) l c.at-number.ensures c.parts-test.true c.requires.given, assumed_at c.args.inference.now.solver c.parts.inference.solver c.args.inference.now.environment c.parts.inference.environment c.parts.invariant.same l c.requires.assumed))

pub check_expressions-returns-in_err-check_expression-clause-answers : goal.check_expressions-returns-in_err-check_expression-clause-answers
check_expressions-returns-in_err-check_expression-clause-answers t c =
    refused_by (ChecksAll (known_of c.args.constructors.now) c.args.parts.now (is_one c.args.types) (first_of c.args.types) c.args.inference.now.environment) c.args.inference.now.solver c.check_expression.new.inference.solver c.from_residual.result c.in_err-check_expression.field-0.0 c.from_residual.ensures.1
    (row_unchecked (known_of c.args.constructors.now) c.args.parts.now c.parts.j c.at-number.result c.index-parts-j.result (is_one c.args.types) (first_of c.args.types) c.args.inference.now.environment c.parts.inference.environment c.args.inference.now.solver c.parts.inference.solver c.in_err-check_expression.field-0.0 c.parts.invariant.same c.at-number.ensures c.parts-test.true c.index-parts-j.is c.requires.assumed c.requires.given c.parts.invariant.checked c.in_err-check_expression.ensures.answers)

pub check_expressions-parts-preserved : goal.check_expressions-parts-preserved
check_expressions-parts-preserved t c =
    record {
      same = c.in_ok-check_expression.ensures.same ∙ c.parts.invariant.same;
      checked = row_more (known_of c.args.constructors.now) c.args.parts.now c.parts.j c.at-number.result c.index-parts-j.result (is_one c.args.types) (first_of c.args.types) c.args.inference.now.environment c.parts.inference.environment c.args.inference.now.solver c.parts.inference.solver c.check_expression.new.inference.solver c.parts.invariant.same c.at-number.ensures c.parts-test.true c.index-parts-j.is c.requires.assumed c.requires.given c.parts.invariant.checked c.in_ok-check_expression.ensures.answers;
    }

pub check_expressions-returns-clause-answers : goal.check_expressions-returns-clause-answers
check_expressions-returns-clause-answers t c =
    row_all (known_of c.args.constructors.now) c.args.parts.now c.parts.j (is_one c.args.types) (first_of c.args.types) c.args.inference.now.environment c.args.inference.now.solver c.parts.inference.solver c.parts-test.false c.parts.invariant.checked

pub check_expression-returns-in_err-outcome-in-Lambda-clause-answers : goal.check_expression-returns-in_err-outcome-in-Lambda-clause-answers
check_expression-returns-in_err-outcome-in-Lambda-clause-answers t c =
    expression_is (known_of c.args.constructors.now) (lambda (patterns c.in-Lambda.pats.items) c.in-Lambda.body.value) c.args.e.now (type_of c.args.t.now) c.args.inference.now.environment c.args.inference.now.solver c.open_function.new.inference.solver c.from_residual-in_err-outcome-in-Lambda.result (sym (ap tree_of c.in-Lambda.is) ∙ c.e.view_is)
    (refused_by (Checks (known_of c.args.constructors.now) (lambda (patterns c.in-Lambda.pats.items) c.in-Lambda.body.value) (type_of c.args.t.now) c.args.inference.now.environment) c.args.inference.now.solver c.open_function.new.inference.solver c.from_residual-in_err-outcome-in-Lambda.result c.in_err-outcome-in-Lambda.field-0.0 c.from_residual-in_err-outcome-in-Lambda.ensures.1
    (lambda_refused (known_of c.args.constructors.now) c.in-Lambda.pats.items c.in-Lambda.body.value (type_of c.args.t.now) c.args.inference.now.solver c.args.inference.now.environment c.in_err-outcome-in-Lambda.field-0.0 (subst (λ qs. RefusesOpening (patterns_of (known_of c.args.constructors.now) (patterns qs)) (monotype (type_of c.args.t.now)) c.args.inference.now.solver c.in_err-outcome-in-Lambda.field-0.0) c.deref-in-Lambda.ensures.value c.in_err-outcome-in-Lambda.ensures.opened)))

pub check_expression-check_expression-requires-in-Lambda : goal.check_expression-check_expression-requires-in-Lambda
check_expression-check_expression-requires-in-Lambda t c =
    let z = ap expression_size (sym (ap tree_of c.in-Lambda.is) ∙ c.e.view_is) in
    let y = ap expression_size c.deref-in-Lambda-2.ensures in
    let smaller : expression_size c.deref-in-Lambda-2.result.now < expression_size c.args.e.now = omega (arith, z, y) in
    let o = (subst (λ qs. IsOpened (patterns_of (known_of c.args.constructors.now) (patterns qs)) (monotype (type_of c.args.t.now)) (Var (var c.in_ok-outcome-in-Lambda.outcome)) c.args.inference.now.solver c.args.inference.now.environment c.open_function.new.inference.solver c.open_function.new.inference.environment) c.deref-in-Lambda.ensures.value c.in_ok-outcome-in-Lambda.ensures.opened) in
    (search rules, (o.result_given, o.given))

pub check_expression-returns-in_err-check_expression-in-Lambda-clause-answers : goal.check_expression-returns-in_err-check_expression-in-Lambda-clause-answers
check_expression-returns-in_err-check_expression-in-Lambda-clause-answers t c =
    expression_is (known_of c.args.constructors.now) (lambda (patterns c.in-Lambda.pats.items) c.in-Lambda.body.value) c.args.e.now (type_of c.args.t.now) c.args.inference.now.environment c.args.inference.now.solver c.check_expression-in-Lambda.new.inference.solver c.from_residual-in_err-check_expression-in-Lambda.result (sym (ap tree_of c.in-Lambda.is) ∙ c.e.view_is)
    (refused_by (Checks (known_of c.args.constructors.now) (lambda (patterns c.in-Lambda.pats.items) c.in-Lambda.body.value) (type_of c.args.t.now) c.args.inference.now.environment) c.args.inference.now.solver c.check_expression-in-Lambda.new.inference.solver c.from_residual-in_err-check_expression-in-Lambda.result c.in_err-check_expression-in-Lambda.field-0.0 c.from_residual-in_err-check_expression-in-Lambda.ensures.1
    (lambda_answers {X = Unit {0}} (known_of c.args.constructors.now) c.in-Lambda.pats.items c.in-Lambda.body.value (type_of c.args.t.now) (Var (var c.in_ok-outcome-in-Lambda.outcome)) c.args.inference.now.solver c.open_function.new.inference.solver c.check_expression-in-Lambda.new.inference.solver c.args.inference.now.environment c.open_function.new.inference.environment (Err c.in_err-check_expression-in-Lambda.field-0.0) c.requires.assumed (subst (λ qs. IsOpened (patterns_of (known_of c.args.constructors.now) (patterns qs)) (monotype (type_of c.args.t.now)) (Var (var c.in_ok-outcome-in-Lambda.outcome)) c.args.inference.now.solver c.args.inference.now.environment c.open_function.new.inference.solver c.open_function.new.inference.environment) c.deref-in-Lambda.ensures.value c.in_ok-outcome-in-Lambda.ensures.opened) (moved_refused (known_of c.args.constructors.now) c.deref-in-Lambda-2.result.now c.in-Lambda.body.value (Var (var c.in_ok-outcome-in-Lambda.outcome)) c.open_function.new.inference.environment c.open_function.new.inference.environment c.open_function.new.inference.solver c.in_err-check_expression-in-Lambda.field-0.0 refl c.deref-in-Lambda-2.ensures c.in_err-check_expression-in-Lambda.ensures.answers)))

pub check_expression-returns-in_ok-check_expression-in-Lambda-clause-answers : goal.check_expression-returns-in_ok-check_expression-in-Lambda-clause-answers
check_expression-returns-in_ok-check_expression-in-Lambda-clause-answers t c =
    expression_is {X = Unit {0}} (known_of c.args.constructors.now) (lambda (patterns c.in-Lambda.pats.items) c.in-Lambda.body.value) c.args.e.now (type_of c.args.t.now) c.args.inference.now.environment c.args.inference.now.solver c.check_expression-in-Lambda.new.inference.solver (Ok tt) (sym (ap tree_of c.in-Lambda.is) ∙ c.e.view_is)
    (lambda_answers {X = Unit {0}} (known_of c.args.constructors.now) c.in-Lambda.pats.items c.in-Lambda.body.value (type_of c.args.t.now) (Var (var c.in_ok-outcome-in-Lambda.outcome)) c.args.inference.now.solver c.open_function.new.inference.solver c.check_expression-in-Lambda.new.inference.solver c.args.inference.now.environment c.open_function.new.inference.environment (Ok tt) c.requires.assumed (subst (λ qs. IsOpened (patterns_of (known_of c.args.constructors.now) (patterns qs)) (monotype (type_of c.args.t.now)) (Var (var c.in_ok-outcome-in-Lambda.outcome)) c.args.inference.now.solver c.args.inference.now.environment c.open_function.new.inference.solver c.open_function.new.inference.environment) c.deref-in-Lambda.ensures.value c.in_ok-outcome-in-Lambda.ensures.opened) (moved_solved (known_of c.args.constructors.now) c.deref-in-Lambda-2.result.now c.in-Lambda.body.value (Var (var c.in_ok-outcome-in-Lambda.outcome)) c.open_function.new.inference.environment c.open_function.new.inference.environment c.open_function.new.inference.solver c.check_expression-in-Lambda.new.inference.solver refl c.deref-in-Lambda-2.ensures c.in_ok-check_expression-in-Lambda.ensures.answers))

pub check_expression-returns-in_ok-check_expression-in-Lambda-clause-same : goal.check_expression-returns-in_ok-check_expression-in-Lambda-clause-same
check_expression-returns-in_ok-check_expression-in-Lambda-clause-same t c =
    let o = (subst (λ qs. IsOpened (patterns_of (known_of c.args.constructors.now) (patterns qs)) (monotype (type_of c.args.t.now)) (Var (var c.in_ok-outcome-in-Lambda.outcome)) c.args.inference.now.solver c.args.inference.now.environment c.open_function.new.inference.solver c.open_function.new.inference.environment) c.deref-in-Lambda.ensures.value c.in_ok-outcome-in-Lambda.ensures.opened) in
    c.truncate.ensures o.added c.args.inference.now.environment (c.in_ok-check_expression-in-Lambda.ensures.same ∙ o.entries) (sym c.len-depth.ensures)

pub check_expression-returns-in_err-check_bindings-in-Let-clause-answers : goal.check_expression-returns-in_err-check_bindings-in-Let-clause-answers
check_expression-returns-in_err-check_bindings-in-Let-clause-answers t c =
    expression_is (known_of c.args.constructors.now) (let_expression (declarations c.in-Let.list.items) c.in-Let.body.value) c.args.e.now (type_of c.args.t.now) c.args.inference.now.environment c.args.inference.now.solver c.check_bindings.new.inference.solver c.from_residual-in_err-check_bindings-in-Let.result (sym (ap tree_of c.in-Let.is) ∙ c.e.view_is)
    (refused_by (Checks (known_of c.args.constructors.now) (let_expression (declarations c.in-Let.list.items) c.in-Let.body.value) (type_of c.args.t.now) c.args.inference.now.environment) c.args.inference.now.solver c.check_bindings.new.inference.solver c.from_residual-in_err-check_bindings-in-Let.result c.in_err-check_bindings-in-Let.field-0.0 c.from_residual-in_err-check_bindings-in-Let.ensures.1
    (let_refused (known_of c.args.constructors.now) (declarations c.in-Let.list.items) c.in-Let.body.value (type_of c.args.t.now) c.args.inference.now.solver c.args.inference.now.environment c.in_err-check_bindings-in-Let.field-0.0 (subst (λ ds. RefusesList (bindings_of (known_of c.args.constructors.now) (declarations ds) (declarations ds)) c.args.inference.now.solver c.args.inference.now.environment c.in_err-check_bindings-in-Let.field-0.0) c.deref-in-Let.ensures.value c.in_err-check_bindings-in-Let.ensures.listed)))

pub check_expression-check_expression-requires-in-Let : goal.check_expression-check_expression-requires-in-Let
check_expression-check_expression-requires-in-Let t c =
    let z = ap expression_size (sym (ap tree_of c.in-Let.is) ∙ c.e.view_is) in
    let y = ap expression_size c.deref-in-Let-2.ensures in
    let smaller : expression_size c.deref-in-Let-2.result.now < expression_size c.args.e.now = omega (arith, z, y) in
    let o = (subst (λ ds. IsBound (bindings_of (known_of c.args.constructors.now) (declarations ds) (declarations ds)) c.args.inference.now.solver c.args.inference.now.environment c.check_bindings.new.inference.solver c.check_bindings.new.inference.environment) c.deref-in-Let.ensures.value c.in_ok-check_bindings-in-Let.ensures.listed) in
    (search rules, (type_at c.args.inference.now.solver c.check_bindings.new.inference.solver (type_of c.args.t.now) o.listed.grows c.requires.given, o.given))

pub check_expression-returns-in_err-check_expression-in-Let-clause-answers : goal.check_expression-returns-in_err-check_expression-in-Let-clause-answers
check_expression-returns-in_err-check_expression-in-Let-clause-answers t c =
    expression_is (known_of c.args.constructors.now) (let_expression (declarations c.in-Let.list.items) c.in-Let.body.value) c.args.e.now (type_of c.args.t.now) c.args.inference.now.environment c.args.inference.now.solver c.check_expression-in-Let.new.inference.solver c.from_residual-in_err-check_expression-in-Let.result (sym (ap tree_of c.in-Let.is) ∙ c.e.view_is)
    (refused_by (Checks (known_of c.args.constructors.now) (let_expression (declarations c.in-Let.list.items) c.in-Let.body.value) (type_of c.args.t.now) c.args.inference.now.environment) c.args.inference.now.solver c.check_expression-in-Let.new.inference.solver c.from_residual-in_err-check_expression-in-Let.result c.in_err-check_expression-in-Let.field-0.0 c.from_residual-in_err-check_expression-in-Let.ensures.1
    (let_answers {X = Unit {0}} (known_of c.args.constructors.now) (declarations c.in-Let.list.items) c.in-Let.body.value (type_of c.args.t.now) c.args.inference.now.solver c.check_bindings.new.inference.solver c.check_expression-in-Let.new.inference.solver c.args.inference.now.environment c.check_bindings.new.inference.environment (Err c.in_err-check_expression-in-Let.field-0.0) c.requires.assumed c.requires.given (subst (λ ds. IsBound (bindings_of (known_of c.args.constructors.now) (declarations ds) (declarations ds)) c.args.inference.now.solver c.args.inference.now.environment c.check_bindings.new.inference.solver c.check_bindings.new.inference.environment) c.deref-in-Let.ensures.value c.in_ok-check_bindings-in-Let.ensures.listed) (moved_refused (known_of c.args.constructors.now) c.deref-in-Let-2.result.now c.in-Let.body.value (type_of c.args.t.now) c.check_bindings.new.inference.environment c.check_bindings.new.inference.environment c.check_bindings.new.inference.solver c.in_err-check_expression-in-Let.field-0.0 refl c.deref-in-Let-2.ensures c.in_err-check_expression-in-Let.ensures.answers)))

pub check_expression-returns-in_ok-check_expression-in-Let-clause-answers : goal.check_expression-returns-in_ok-check_expression-in-Let-clause-answers
check_expression-returns-in_ok-check_expression-in-Let-clause-answers t c =
    expression_is {X = Unit {0}} (known_of c.args.constructors.now) (let_expression (declarations c.in-Let.list.items) c.in-Let.body.value) c.args.e.now (type_of c.args.t.now) c.args.inference.now.environment c.args.inference.now.solver c.check_expression-in-Let.new.inference.solver (Ok tt) (sym (ap tree_of c.in-Let.is) ∙ c.e.view_is)
    (let_answers {X = Unit {0}} (known_of c.args.constructors.now) (declarations c.in-Let.list.items) c.in-Let.body.value (type_of c.args.t.now) c.args.inference.now.solver c.check_bindings.new.inference.solver c.check_expression-in-Let.new.inference.solver c.args.inference.now.environment c.check_bindings.new.inference.environment (Ok tt) c.requires.assumed c.requires.given (subst (λ ds. IsBound (bindings_of (known_of c.args.constructors.now) (declarations ds) (declarations ds)) c.args.inference.now.solver c.args.inference.now.environment c.check_bindings.new.inference.solver c.check_bindings.new.inference.environment) c.deref-in-Let.ensures.value c.in_ok-check_bindings-in-Let.ensures.listed) (moved_solved (known_of c.args.constructors.now) c.deref-in-Let-2.result.now c.in-Let.body.value (type_of c.args.t.now) c.check_bindings.new.inference.environment c.check_bindings.new.inference.environment c.check_bindings.new.inference.solver c.check_expression-in-Let.new.inference.solver refl c.deref-in-Let-2.ensures c.in_ok-check_expression-in-Let.ensures.answers))

pub check_expression-returns-in_ok-check_expression-in-Let-clause-same : goal.check_expression-returns-in_ok-check_expression-in-Let-clause-same
check_expression-returns-in_ok-check_expression-in-Let-clause-same t c =
    let o = (subst (λ ds. IsBound (bindings_of (known_of c.args.constructors.now) (declarations ds) (declarations ds)) c.args.inference.now.solver c.args.inference.now.environment c.check_bindings.new.inference.solver c.check_bindings.new.inference.environment) c.deref-in-Let.ensures.value c.in_ok-check_bindings-in-Let.ensures.listed) in
    c.truncate-in-Let.ensures o.added c.args.inference.now.environment (c.in_ok-check_expression-in-Let.ensures.same ∙ o.entries) (sym c.len-depth-in-Let.ensures)

pub check_body-returns-in-None-clause-answers : goal.check_body-returns-in-None-clause-answers
check_body-returns-in-None-clause-answers t c =
    body_is (known_of c.args.constructors.now) None c.args.guard.now c.args.e.now (type_of c.args.t.now) c.args.inference.now.environment c.args.inference.now.solver c.check_expression.new.inference.solver c.check_expression.result (sym c.in-None.is) (plain_answers (known_of c.args.constructors.now) c.args.e.now (type_of c.args.t.now) c.args.inference.now.environment c.args.inference.now.solver c.check_expression.new.inference.solver c.check_expression.result c.check_expression.ensures.answers)

pub check_body-returns-in_ok-check_expression-in-Some-clause-answers : goal.check_body-returns-in_ok-check_expression-in-Some-clause-answers
check_body-returns-in_ok-check_expression-in-Some-clause-answers t c =
    body_is (known_of c.args.constructors.now) (Some c.in-Some.condition) c.args.guard.now c.args.e.now (type_of c.args.t.now) c.args.inference.now.environment c.args.inference.now.solver c.check_expression-in-Some-2.new.inference.solver c.check_expression-in-Some-2.result (sym c.in-Some.is)
    (guarded_answers (known_of c.args.constructors.now) c.in-Some.condition c.args.e.now (type_of c.args.t.now) (type_of c.truth-wanted.result.now) c.args.inference.now.environment c.args.inference.now.solver c.check_expression-in-Some.new.inference.solver c.check_expression-in-Some-2.new.inference.solver c.check_expression-in-Some-2.result c.requires.assumed c.requires.given c.truth-wanted.ensures.shape c.in_ok-check_expression-in-Some.ensures.answers
    (moved_answers (known_of c.args.constructors.now) c.args.e.now c.args.e.now (type_of c.args.t.now) c.args.inference.now.environment c.check_expression-in-Some.new.inference.environment c.check_expression-in-Some.new.inference.solver c.check_expression-in-Some-2.new.inference.solver c.check_expression-in-Some-2.result c.in_ok-check_expression-in-Some.ensures.same refl c.check_expression-in-Some-2.ensures.answers))

pub check_bodies-parts-init : goal.check_bodies-parts-init
check_bodies-parts-init t c = record { same = refl; checked = bodies_none (known_of c.args.constructors.now) c.args.parts.now (type_of c.args.t.now) c.args.inference.now.environment c.args.inference.now.solver (problem_below c.args.inference.now.solver c.well_formed-2.ensures) }

pub check_bodies-returns-in_err-check_body-clause-answers : goal.check_bodies-returns-in_err-check_body-clause-answers
check_bodies-returns-in_err-check_body-clause-answers t c =
    refused_by (ChecksBodies (known_of c.args.constructors.now) c.args.parts.now (type_of c.args.t.now) c.args.inference.now.environment) c.args.inference.now.solver c.check_body.new.inference.solver c.from_residual.result c.in_err-check_body.field-0.0 c.from_residual.ensures.1 (bodies_refused (known_of c.args.constructors.now) c.args.parts.now c.parts.j c.index-parts-j.result (type_of c.args.t.now) c.args.inference.now.environment c.parts.inference.environment c.args.inference.now.solver c.parts.inference.solver c.in_err-check_body.field-0.0 c.parts.invariant.same c.parts-test.true c.index-parts-j.is c.requires.assumed c.requires.given c.parts.invariant.checked c.in_err-check_body.ensures.answers)

pub check_bodies-parts-preserved : goal.check_bodies-parts-preserved
check_bodies-parts-preserved t c = record {
  same = c.in_ok-check_body.ensures.same ∙ c.parts.invariant.same;
  checked = bodies_more (known_of c.args.constructors.now) c.args.parts.now c.parts.j c.index-parts-j.result (type_of c.args.t.now) c.args.inference.now.environment c.parts.inference.environment c.args.inference.now.solver c.parts.inference.solver c.check_body.new.inference.solver c.parts.invariant.same c.parts-test.true c.index-parts-j.is c.requires.assumed c.requires.given c.parts.invariant.checked c.in_ok-check_body.ensures.answers;
}

pub check_bodies-returns-clause-answers : goal.check_bodies-returns-clause-answers
check_bodies-returns-clause-answers t c = bodies_all (known_of c.args.constructors.now) c.args.parts.now c.parts.j (type_of c.args.t.now) c.args.inference.now.environment c.args.inference.now.solver c.parts.inference.solver c.parts-test.false c.parts.invariant.checked

pub check_right_side-returns-in_err-check_bindings-clause-answers : goal.check_right_side-returns-in_err-check_bindings-clause-answers
check_right_side-returns-in_err-check_bindings-clause-answers t c =
    subst (λ q. Answers (ChecksSide (known_of c.args.constructors.now) q (type_of c.args.t.now) c.args.inference.now.environment) c.args.inference.now.solver c.check_bindings.new.inference.solver c.from_residual.result) c.rhs.view_is
    (refused_by (ChecksSide (known_of c.args.constructors.now) (right_side (bodies c.rhs.inside.parts.items) (declarations c.rhs.inside.local.items)) (type_of c.args.t.now) c.args.inference.now.environment) c.args.inference.now.solver c.check_bindings.new.inference.solver c.from_residual.result c.in_err-check_bindings.field-0.0 c.from_residual.ensures.1 (side_refused (known_of c.args.constructors.now) c.rhs.inside.parts.items (declarations c.rhs.inside.local.items) (type_of c.args.t.now) c.args.inference.now.solver c.args.inference.now.environment c.in_err-check_bindings.field-0.0 (subst (λ ds. RefusesList (bindings_of (known_of c.args.constructors.now) (declarations ds) (declarations ds)) c.args.inference.now.solver c.args.inference.now.environment c.in_err-check_bindings.field-0.0) c.deref.ensures.value c.in_err-check_bindings.ensures.listed)))

pub check_right_side-returns-in_err-check_bodies-clause-answers : goal.check_right_side-returns-in_err-check_bodies-clause-answers
check_right_side-returns-in_err-check_bodies-clause-answers t c =
    let f = c.from_residual-in_err-check_bodies in
    subst (λ q. Answers (ChecksSide (known_of c.args.constructors.now) q (type_of c.args.t.now) c.args.inference.now.environment) c.args.inference.now.solver c.check_bodies.new.inference.solver c.from_residual-in_err-check_bodies.result) c.rhs.view_is
    (refused_by (ChecksSide (known_of c.args.constructors.now) (right_side (bodies c.rhs.inside.parts.items) (declarations c.rhs.inside.local.items)) (type_of c.args.t.now) c.args.inference.now.environment) c.args.inference.now.solver c.check_bodies.new.inference.solver c.from_residual-in_err-check_bodies.result c.in_err-check_bodies.field-0.0 c.from_residual-in_err-check_bodies.ensures.1 (side_answers {X = Unit {0}} (known_of c.args.constructors.now) c.rhs.inside.parts.items (declarations c.rhs.inside.local.items) (type_of c.args.t.now) c.args.inference.now.solver c.check_bindings.new.inference.solver c.check_bodies.new.inference.solver c.args.inference.now.environment c.check_bindings.new.inference.environment (Err c.in_err-check_bodies.field-0.0) c.requires.assumed c.requires.given (subst (λ ds. IsBound (bindings_of (known_of c.args.constructors.now) (declarations ds) (declarations ds)) c.args.inference.now.solver c.args.inference.now.environment c.check_bindings.new.inference.solver c.check_bindings.new.inference.environment) c.deref.ensures.value c.in_ok-check_bindings.ensures.listed) (subst (λ z. Refuses (ChecksBodies (known_of c.args.constructors.now) z (type_of c.args.t.now) c.check_bindings.new.inference.environment) c.check_bindings.new.inference.solver c.in_err-check_bodies.field-0.0) c.deref-2.ensures.value c.in_err-check_bodies.ensures.answers)))

pub check_right_side-returns-clause-answers : goal.check_right_side-returns-clause-answers
check_right_side-returns-clause-answers t c =
    subst (λ q. Answers {X = Unit {0}} (ChecksSide (known_of c.args.constructors.now) q (type_of c.args.t.now) c.args.inference.now.environment) c.args.inference.now.solver c.check_bodies.new.inference.solver (Ok tt)) c.rhs.view_is
    (side_answers {X = Unit {0}} (known_of c.args.constructors.now) c.rhs.inside.parts.items (declarations c.rhs.inside.local.items) (type_of c.args.t.now) c.args.inference.now.solver c.check_bindings.new.inference.solver c.check_bodies.new.inference.solver c.args.inference.now.environment c.check_bindings.new.inference.environment (Ok tt) c.requires.assumed c.requires.given (subst (λ ds. IsBound (bindings_of (known_of c.args.constructors.now) (declarations ds) (declarations ds)) c.args.inference.now.solver c.args.inference.now.environment c.check_bindings.new.inference.solver c.check_bindings.new.inference.environment) c.deref.ensures.value c.in_ok-check_bindings.ensures.listed) (subst (λ z. Answers {X = Unit {0}} (ChecksBodies (known_of c.args.constructors.now) z (type_of c.args.t.now) c.check_bindings.new.inference.environment) c.check_bindings.new.inference.solver c.check_bodies.new.inference.solver (Ok tt)) c.deref-2.ensures.value c.in_ok-check_bodies.ensures.answers))

pub check_body-check_expression-requires : goal.check_body-check_expression-requires
check_body-check_expression-requires t c =
    let z = ap (λ g. bodies_size (body g c.args.e.now no_bodies)) c.in-None.is in
    let smaller : expression_size c.args.e.now < bodies_size (body c.args.guard.now c.args.e.now no_bodies) = omega (arith, z) in
    (search rules, (c.requires.given, c.requires.assumed))

pub check_body-check_expression-requires-in-Some : goal.check_body-check_expression-requires-in-Some
check_body-check_expression-requires-in-Some t c =
    let z = ap (λ g. bodies_size (body g c.args.e.now no_bodies)) c.in-Some.is in
    let smaller : expression_size c.in-Some.condition < bodies_size (body c.args.guard.now c.args.e.now no_bodies) = omega (arith, z) in
    (search rules, (c.truth-wanted.ensures.given c.args.inference.now.solver.given, c.requires.assumed))

pub check_body-check_expression-requires-in-Some-2 : goal.check_body-check_expression-requires-in-Some-2
check_body-check_expression-requires-in-Some-2 t c =
    let z = ap (λ g. bodies_size (body g c.args.e.now no_bodies)) c.in-Some.is in
    let smaller : expression_size c.args.e.now < bodies_size (body c.args.guard.now c.args.e.now no_bodies) = omega (arith, z) in
    (search rules, (type_at c.args.inference.now.solver c.check_expression-in-Some.new.inference.solver (type_of c.args.t.now) (solved_grows _ c.args.inference.now.solver c.check_expression-in-Some.new.inference.solver c.in_ok-check_expression-in-Some.ensures.answers) c.requires.given, assumed_at c.args.inference.now.solver c.check_expression-in-Some.new.inference.solver c.args.inference.now.environment c.check_expression-in-Some.new.inference.environment c.in_ok-check_expression-in-Some.ensures.same (solved_grows _ c.args.inference.now.solver c.check_expression-in-Some.new.inference.solver c.in_ok-check_expression-in-Some.ensures.answers) c.requires.assumed))

pub check_bodies-check_body-requires : goal.check_bodies-check_body-requires
check_bodies-check_body-requires t c =
    let l = solved_grows _ c.args.inference.now.solver c.parts.inference.solver c.parts.invariant.checked in
    let smaller : bodies_size (body c.index-parts-j.result.0 c.index-parts-j.result.1 no_bodies) < suc (bodies_size (bodies c.args.parts.now)) = size_of_part c.args.parts.now c.parts.j c.index-parts-j.result c.parts-test.true c.index-parts-j.is in
    (search rules, (type_at c.args.inference.now.solver c.parts.inference.solver (type_of c.args.t.now) l c.requires.given, assumed_at c.args.inference.now.solver c.parts.inference.solver c.args.inference.now.environment c.parts.inference.environment c.parts.invariant.same l c.requires.assumed))

pub check_right_side-check_bodies-requires : goal.check_right_side-check_bodies-requires
check_right_side-check_bodies-requires t c =
    let z = ap right_side_size c.rhs.view_is in
    let y = ap (λ ps. bodies_size (bodies ps)) c.deref-2.ensures.value in
    let smaller : suc (bodies_size (bodies c.deref-2.result.now)) < suc (right_side_size c.args.rhs.now) = omega (arith, z, y) in
    let o = (subst (λ ds. IsBound (bindings_of (known_of c.args.constructors.now) (declarations ds) (declarations ds)) c.args.inference.now.solver c.args.inference.now.environment c.check_bindings.new.inference.solver c.check_bindings.new.inference.environment) c.deref.ensures.value c.in_ok-check_bindings.ensures.listed) in
    (search rules, (type_at c.args.inference.now.solver c.check_bindings.new.inference.solver (type_of c.args.t.now) o.listed.grows c.requires.given, o.given))

pub check_alternative-returns-in_err-open_alternative-clause-answers : goal.check_alternative-returns-in_err-open_alternative-clause-answers
check_alternative-returns-in_err-open_alternative-clause-answers t c =
    refused_by (ChecksChoice (known_of c.args.constructors.now) c.args.pat.now c.args.rhs.now c.args.types.now.inner (type_of c.args.types.now.outcome.now) c.args.inference.now.environment) c.args.inference.now.solver c.open_alternative.new.inference.solver c.from_residual.result c.in_err-open_alternative.field-0.0 c.from_residual.ensures.1
    (choice_refused (known_of c.args.constructors.now) c.args.pat.now c.args.rhs.now c.args.types.now.inner (type_of c.args.types.now.outcome.now) c.args.inference.now.solver c.args.inference.now.environment c.in_err-open_alternative.field-0.0 c.in_err-open_alternative.ensures.opened)

pub check_alternative-check_right_side-requires : goal.check_alternative-check_right_side-requires
check_alternative-check_right_side-requires t c =
    let smaller : suc (right_side_size c.args.rhs.now) < suc (suc (right_side_size c.args.rhs.now)) = omega arith in
    (search rules, (c.in_ok-open_alternative.ensures.opened.result_given, c.in_ok-open_alternative.ensures.opened.given))

pub check_alternative-returns-in_err-check_right_side-clause-answers : goal.check_alternative-returns-in_err-check_right_side-clause-answers
check_alternative-returns-in_err-check_right_side-clause-answers t c =
    refused_by (ChecksChoice (known_of c.args.constructors.now) c.args.pat.now c.args.rhs.now c.args.types.now.inner (type_of c.args.types.now.outcome.now) c.args.inference.now.environment) c.args.inference.now.solver c.check_right_side.new.inference.solver c.from_residual-in_err-check_right_side.result c.in_err-check_right_side.field-0.0 c.from_residual-in_err-check_right_side.ensures.1
    (choice_answers {X = Unit {0}} (known_of c.args.constructors.now) c.args.pat.now c.args.rhs.now c.args.types.now.inner (type_of c.args.types.now.outcome.now) c.args.inference.now.solver c.open_alternative.new.inference.solver c.check_right_side.new.inference.solver c.args.inference.now.environment c.open_alternative.new.inference.environment (Err c.in_err-check_right_side.field-0.0) c.requires.assumed c.in_ok-open_alternative.ensures.opened c.in_err-check_right_side.ensures.answers)

pub check_alternative-returns-clause-answers : goal.check_alternative-returns-clause-answers
check_alternative-returns-clause-answers t c =
    choice_answers {X = Unit {0}} (known_of c.args.constructors.now) c.args.pat.now c.args.rhs.now c.args.types.now.inner (type_of c.args.types.now.outcome.now) c.args.inference.now.solver c.open_alternative.new.inference.solver c.check_right_side.new.inference.solver c.args.inference.now.environment c.open_alternative.new.inference.environment (Ok tt) c.requires.assumed c.in_ok-open_alternative.ensures.opened c.in_ok-check_right_side.ensures.answers

pub check_alternatives-choices-init : goal.check_alternatives-choices-init
check_alternatives-choices-init t c = record { same = refl; checked = choices_none (known_of c.args.constructors.now) c.args.choices.now c.args.types.now.inner (type_of c.args.types.now.outcome.now) c.args.inference.now.environment c.args.inference.now.solver (problem_below c.args.inference.now.solver c.well_formed-2.ensures) }

pub check_alternatives-check_alternative-requires : goal.check_alternatives-check_alternative-requires
check_alternatives-check_alternative-requires t c =
    let l = solved_grows _ c.args.inference.now.solver c.choices.inference.solver c.choices.invariant.checked in
    let f = c.requires.inner in
    let smaller : suc (suc (right_side_size c.choice.inside.rhs)) < suc (alternatives_size (alternatives c.args.choices.now)) = size_of_choice c.args.choices.now c.choices.j c.index-choices-j.result c.choice.inside.pat c.choice.inside.rhs c.choices-test.true c.index-choices-j.is c.choice.view_is in
    (search rules, (omega (arith, f, l), (type_at c.args.inference.now.solver c.choices.inference.solver (type_of c.args.types.now.outcome.now) l c.requires.given, assumed_at c.args.inference.now.solver c.choices.inference.solver c.args.inference.now.environment c.choices.inference.environment c.choices.invariant.same l c.requires.assumed)))

pub check_alternatives-returns-in_err-check_alternative-clause-answers : goal.check_alternatives-returns-in_err-check_alternative-clause-answers
check_alternatives-returns-in_err-check_alternative-clause-answers t c =
    refused_by (ChecksChoices (known_of c.args.constructors.now) c.args.choices.now c.args.types.now.inner (type_of c.args.types.now.outcome.now) c.args.inference.now.environment) c.args.inference.now.solver c.check_alternative.new.inference.solver c.from_residual.result c.in_err-check_alternative.field-0.0 c.from_residual.ensures.1
    (choices_refused (known_of c.args.constructors.now) c.args.choices.now c.choices.j c.index-choices-j.result c.choice.inside.pat c.choice.inside.rhs c.args.types.now.inner (type_of c.args.types.now.outcome.now) c.args.inference.now.environment c.choices.inference.environment c.args.inference.now.solver c.choices.inference.solver c.in_err-check_alternative.field-0.0 c.choices.invariant.same c.choices-test.true c.index-choices-j.is c.choice.view_is c.requires.assumed c.requires.inner c.requires.given c.choices.invariant.checked c.in_err-check_alternative.ensures.answers)

pub check_alternatives-choices-preserved : goal.check_alternatives-choices-preserved
check_alternatives-choices-preserved t c = record {
  same = c.in_ok-check_alternative.ensures.same ∙ c.choices.invariant.same;
  checked = choices_more (known_of c.args.constructors.now) c.args.choices.now c.choices.j c.index-choices-j.result c.choice.inside.pat c.choice.inside.rhs c.args.types.now.inner (type_of c.args.types.now.outcome.now) c.args.inference.now.environment c.choices.inference.environment c.args.inference.now.solver c.choices.inference.solver c.check_alternative.new.inference.solver c.choices.invariant.same c.choices-test.true c.index-choices-j.is c.choice.view_is c.requires.assumed c.requires.inner c.requires.given c.choices.invariant.checked c.in_ok-check_alternative.ensures.answers;
}

pub check_alternatives-returns-clause-answers : goal.check_alternatives-returns-clause-answers
check_alternatives-returns-clause-answers t c = choices_all (known_of c.args.constructors.now) c.args.choices.now c.choices.j c.args.types.now.inner (type_of c.args.types.now.outcome.now) c.args.inference.now.environment c.args.inference.now.solver c.choices.inference.solver c.choices-test.false c.choices.invariant.checked

pub check_expression-check_expression-requires-in-Case : goal.check_expression-check_expression-requires-in-Case
check_expression-check_expression-requires-in-Case t c =
    let z = ap expression_size (sym (ap tree_of c.in-Case.is) ∙ c.e.view_is) in
    let y = ap expression_size c.deref-in-Case.ensures in
    let smaller : expression_size c.deref-in-Case.result.now < expression_size c.args.e.now = omega (arith, z, y) in
    let f = first_given c.args.inference.now.solver c.new_variables.new.solver c.in_ok-first-in-Case.first c.in_ok-first-in-Case.ensures.next c.in_ok-first-in-Case.ensures.first in
    (search rules, (f, assumed_at c.args.inference.now.solver c.new_variables.new.solver c.args.inference.now.environment c.args.inference.now.environment refl (given_next c.args.inference.now.solver c.new_variables.new.solver 1 c.in_ok-first-in-Case.ensures.next) c.requires.assumed))

pub check_expression-returns-in_err-check_expression-in-Case-clause-answers : goal.check_expression-returns-in_err-check_expression-in-Case-clause-answers
check_expression-returns-in_err-check_expression-in-Case-clause-answers t c =
    expression_is (known_of c.args.constructors.now) (case_expression c.in-Case.inner.value (alternatives c.in-Case.choices.items)) c.args.e.now (type_of c.args.t.now) c.args.inference.now.environment c.args.inference.now.solver c.check_expression-in-Case.new.inference.solver c.from_residual-in_err-check_expression-in-Case.result (sym (ap tree_of c.in-Case.is) ∙ c.e.view_is)
    (refused_by (Checks (known_of c.args.constructors.now) (case_expression c.in-Case.inner.value (alternatives c.in-Case.choices.items)) (type_of c.args.t.now) c.args.inference.now.environment) c.args.inference.now.solver c.check_expression-in-Case.new.inference.solver c.from_residual-in_err-check_expression-in-Case.result c.in_err-check_expression-in-Case.field-0.0 c.from_residual-in_err-check_expression-in-Case.ensures.1
    (case_refused (known_of c.args.constructors.now) c.in-Case.inner.value c.in-Case.choices.items (type_of c.args.t.now) c.in_ok-first-in-Case.first c.args.inference.now.environment c.args.inference.now.solver c.new_variables.new.solver c.in_err-check_expression-in-Case.field-0.0 c.in_ok-first-in-Case.ensures.below c.requires.assumed c.requires.given c.in_ok-first-in-Case.ensures.next c.in_ok-first-in-Case.ensures.first (moved_refused (known_of c.args.constructors.now) c.deref-in-Case.result.now c.in-Case.inner.value (Var (var c.in_ok-first-in-Case.first)) c.args.inference.now.environment c.args.inference.now.environment c.new_variables.new.solver c.in_err-check_expression-in-Case.field-0.0 refl c.deref-in-Case.ensures c.in_err-check_expression-in-Case.ensures.answers)))

pub check_expression-check_alternatives-requires : goal.check_expression-check_alternatives-requires
check_expression-check_alternatives-requires t c =
    let z = ap expression_size (sym (ap tree_of c.in-Case.is) ∙ c.e.view_is) in
    let y = ap (λ bs. alternatives_size (alternatives bs)) c.deref-in-Case-2.ensures.value in
    let p = expression_positive c.in-Case.inner.value in
    let smaller : suc (alternatives_size (alternatives c.deref-in-Case-2.result.now)) < expression_size c.args.e.now = omega (arith, z, y, p) in
    let l = solved_grows _ c.new_variables.new.solver c.check_expression-in-Case.new.inference.solver c.in_ok-check_expression-in-Case.ensures.answers in
    let f = first_given c.args.inference.now.solver c.new_variables.new.solver c.in_ok-first-in-Case.first c.in_ok-first-in-Case.ensures.next c.in_ok-first-in-Case.ensures.first in
    let k = given_next c.args.inference.now.solver c.new_variables.new.solver 1 c.in_ok-first-in-Case.ensures.next in
    (search rules, (omega (arith, l, f), (type_at c.args.inference.now.solver c.check_expression-in-Case.new.inference.solver (type_of c.args.t.now) (omega (arith, l, k)) c.requires.given, assumed_at c.args.inference.now.solver c.check_expression-in-Case.new.inference.solver c.args.inference.now.environment c.check_expression-in-Case.new.inference.environment c.in_ok-check_expression-in-Case.ensures.same (omega (arith, l, k)) c.requires.assumed)))

pub check_expression-returns-in_ok-check_expression-in-Case-clause-answers : goal.check_expression-returns-in_ok-check_expression-in-Case-clause-answers
check_expression-returns-in_ok-check_expression-in-Case-clause-answers t c =
    expression_is (known_of c.args.constructors.now) (case_expression c.in-Case.inner.value (alternatives c.in-Case.choices.items)) c.args.e.now (type_of c.args.t.now) c.args.inference.now.environment c.args.inference.now.solver c.check_alternatives.new.inference.solver c.check_alternatives.result (sym (ap tree_of c.in-Case.is) ∙ c.e.view_is)
    (case_answers (known_of c.args.constructors.now) c.in-Case.inner.value c.in-Case.choices.items (type_of c.args.t.now) c.in_ok-first-in-Case.first c.args.inference.now.environment c.args.inference.now.solver c.new_variables.new.solver c.check_expression-in-Case.new.inference.solver c.check_alternatives.new.inference.solver c.check_alternatives.result c.in_ok-first-in-Case.ensures.below c.requires.assumed c.requires.given c.in_ok-first-in-Case.ensures.next c.in_ok-first-in-Case.ensures.first
    (moved_solved (known_of c.args.constructors.now) c.deref-in-Case.result.now c.in-Case.inner.value (Var (var c.in_ok-first-in-Case.first)) c.args.inference.now.environment c.args.inference.now.environment c.new_variables.new.solver c.check_expression-in-Case.new.inference.solver refl c.deref-in-Case.ensures c.in_ok-check_expression-in-Case.ensures.answers)
    (choices_moved (known_of c.args.constructors.now) c.deref-in-Case-2.result.now c.in-Case.choices.items c.in_ok-first-in-Case.first (type_of c.args.t.now) c.args.inference.now.environment c.check_expression-in-Case.new.inference.environment c.check_expression-in-Case.new.inference.solver c.check_alternatives.new.inference.solver c.check_alternatives.result c.in_ok-check_expression-in-Case.ensures.same c.deref-in-Case-2.ensures.value c.check_alternatives.ensures.answers))

pub check_expression-check_typed-requires : goal.check_expression-check_typed-requires
check_expression-check_typed-requires t c =
    let z = ap expression_size (sym (ap tree_of c.in-Typed.is) ∙ c.e.view_is) in
    let y = ap expression_size c.deref-in-Typed.ensures in
    let smaller : 8 * expression_size c.deref-in-Typed.result.now + 1 < 8 * expression_size c.args.e.now = omega (arith, z, y) in
    (search rules, (c.requires.given, c.requires.assumed))

pub check_expression-returns-in-Typed-clause-answers : goal.check_expression-returns-in-Typed-clause-answers
check_expression-returns-in-Typed-clause-answers t c =
    let known = known_of c.args.constructors.now in
    let es = c.args.inference.now.environment in
    let s = c.args.inference.now.solver in
    let s1 = c.check_typed.new.inference.solver in
    let outcome = c.check_typed.result in
    expression_is known (typed_expression c.in-Typed.inner.value c.in-Typed.ty) c.args.e.now (type_of c.args.t.now) es s s1 outcome (sym (ap tree_of c.in-Typed.is) ∙ c.e.view_is)
    (subst (λ x. AnswersExpression known (typed_expression x c.in-Typed.ty) (type_of c.args.t.now) es s s1 outcome) c.deref-in-Typed.ensures c.check_typed.ensures.answers)

pub check_typed-check_expression-requires : goal.check_typed-check_expression-requires
check_typed-check_expression-requires t c =
    let smaller : 8 * expression_size c.args.inner.now < 8 * expression_size c.args.inner.now + 1 = omega arith in
    let k = given_next c.args.inference.now.solver c.with_rigid_variables.new.solver c.in_ok-declared.declared.count c.in_ok-own.ensures.next in
    (search rules, (c.in_ok-own.ensures.given, assumed_at c.args.inference.now.solver c.with_rigid_variables.new.solver c.args.inference.now.environment c.args.inference.now.environment refl k c.requires.assumed))

pub check_typed-returns-in_err-check_expression-clause-answers : goal.check_typed-returns-in_err-check_expression-clause-answers
check_typed-returns-in_err-check_expression-clause-answers t c =
    let known = known_of c.args.constructors.now in
    let es = c.args.inference.now.environment in
    let s = c.args.inference.now.solver in
    let s1 = c.with_rigid_variables.new.solver in
    let s2 = c.check_expression.new.inference.solver in
    let x = c.args.inner.now in
    let body = type_of c.in_ok-declared.declared.body in
    let own = type_of c.in_ok-own.own.body in
    let count = c.in_ok-declared.declared.count in
    let first = c.in_ok-own.own.first in
    let taken : IsTaken s s1 count first body own = record { next = c.in_ok-own.ensures.next; from = c.in_ok-own.ensures.first; shape = c.in_ok-own.ensures.body; below = c.in_ok-own.ensures.below; given = c.in_ok-declared.ensures.given } in
    let fault = c.in_err-check_expression.field-0.0 in
    let outcome = c.from_residual-in_err-check_expression.result in
    refused_by (Checks known (typed_expression x c.args.ty.now) (type_of c.args.t.now) es) s s2 outcome fault c.from_residual-in_err-check_expression.ensures.1
    (typed_refused known x body own count first es s s1 c.requires.assumed taken c.args.ty.now (type_of c.args.t.now) c.in_ok-declared.ensures.body c.requires.given fault
    (inner_refused known x body own count first es s s1 c.requires.assumed taken fault c.in_err-check_expression.ensures.answers))

pub check_typed-returns-in_err-forbid_escape-clause-answers : goal.check_typed-returns-in_err-forbid_escape-clause-answers
check_typed-returns-in_err-forbid_escape-clause-answers t c =
    let known = known_of c.args.constructors.now in
    let es = c.args.inference.now.environment in
    let s = c.args.inference.now.solver in
    let s1 = c.with_rigid_variables.new.solver in
    let s2 = c.check_expression.new.inference.solver in
    let x = c.args.inner.now in
    let body = type_of c.in_ok-declared.declared.body in
    let own = type_of c.in_ok-own.own.body in
    let count = c.in_ok-declared.declared.count in
    let first = c.in_ok-own.own.first in
    let taken : IsTaken s s1 count first body own = record { next = c.in_ok-own.ensures.next; from = c.in_ok-own.ensures.first; shape = c.in_ok-own.ensures.body; below = c.in_ok-own.ensures.below; given = c.in_ok-declared.ensures.given } in
    let fault = c.in_err-forbid_escape.field-0.0 in
    let outcome = c.from_residual-in_err-forbid_escape.result in
    refused_by (Checks known (typed_expression x c.args.ty.now) (type_of c.args.t.now) es) s s2 outcome fault c.from_residual-in_err-forbid_escape.ensures.1
    (typed_refused known x body own count first es s s1 c.requires.assumed taken c.args.ty.now (type_of c.args.t.now) c.in_ok-declared.ensures.body c.requires.given fault
    (escape_refused known x body own count first es s s1 c.requires.assumed taken s2 fault c.in_ok-check_expression.ensures.answers
    c.in_err-forbid_escape.ensures))

pub check_typed-check_instance-requires-clause-given : goal.check_typed-check_instance-requires-clause-given
check_typed-check_instance-requires-clause-given t c =
    let k = given_next c.args.inference.now.solver c.with_rigid_variables.new.solver c.in_ok-declared.declared.count c.in_ok-own.ensures.next in
    let l = solved_grows _ c.with_rigid_variables.new.solver c.check_expression.new.inference.solver c.in_ok-check_expression.ensures.answers in
    type_at c.args.inference.now.solver c.check_expression.new.inference.solver (type_of c.args.t.now) (omega (arith, k, l)) c.requires.given

pub check_typed-returns-clause-answers : goal.check_typed-returns-clause-answers
check_typed-returns-clause-answers t c =
    let known = known_of c.args.constructors.now in
    let es = c.args.inference.now.environment in
    let s = c.args.inference.now.solver in
    let s1 = c.with_rigid_variables.new.solver in
    let s2 = c.check_expression.new.inference.solver in
    let x = c.args.inner.now in
    let body = type_of c.in_ok-declared.declared.body in
    let own = type_of c.in_ok-own.own.body in
    let count = c.in_ok-declared.declared.count in
    let first = c.in_ok-own.own.first in
    let taken : IsTaken s s1 count first body own = record { next = c.in_ok-own.ensures.next; from = c.in_ok-own.ensures.first; shape = c.in_ok-own.ensures.body; below = c.in_ok-own.ensures.below; given = c.in_ok-declared.ensures.given } in
    let s3 = c.check_instance.new.solver in
    let tells = c.in_ok-forbid_escape.ensures in
    typed_answers known x body own count first es s s1 c.requires.assumed taken c.args.ty.now (type_of c.args.t.now) c.in_ok-declared.ensures.body c.requires.given s2 s3 c.check_instance.result
    (at_each known x body own count first es s s1 c.requires.assumed taken s2 c.in_ok-forbid_escape.field-0 c.in_ok-check_expression.ensures.answers tells) c.check_instance.ensures

pub check_clause-returns-in_err-check_right_side-clause-answers : goal.check_clause-returns-in_err-check_right_side-clause-answers
check_clause-returns-in_err-check_right_side-clause-answers t c =
    refused_by (ChecksClause (known_of c.args.constructors.now) c.args.pats.now c.args.rhs.now (type_of c.args.t.now) c.args.inference.now.environment) c.args.inference.now.solver c.check_right_side.new.inference.solver c.from_residual-in_err-check_right_side.result c.in_err-check_right_side.field-0.0 c.from_residual-in_err-check_right_side.ensures.1
    (clause_answers {X = Unit {0}} (known_of c.args.constructors.now) c.args.pats.now c.args.rhs.now (type_of c.args.t.now) (Var (var c.in_ok-outcome.outcome)) c.args.inference.now.solver c.open_function.new.inference.solver c.check_right_side.new.inference.solver c.args.inference.now.environment c.open_function.new.inference.environment (Err c.in_err-check_right_side.field-0.0) c.requires.assumed c.in_ok-outcome.ensures.opened c.in_err-check_right_side.ensures.answers)

pub check_clause-returns-clause-answers : goal.check_clause-returns-clause-answers
check_clause-returns-clause-answers t c =
    clause_answers {X = Unit {0}} (known_of c.args.constructors.now) c.args.pats.now c.args.rhs.now (type_of c.args.t.now) (Var (var c.in_ok-outcome.outcome)) c.args.inference.now.solver c.open_function.new.inference.solver c.check_right_side.new.inference.solver c.args.inference.now.environment c.open_function.new.inference.environment (Ok tt) c.requires.assumed c.in_ok-outcome.ensures.opened c.in_ok-check_right_side.ensures.answers

pub check_bindings-returns-then-is_empty-clause-listed : goal.check_bindings-returns-then-is_empty-clause-listed
check_bindings-returns-then-is_empty-clause-listed t c =
    empty_listed {X = Unit {0}} (known_of c.args.constructors.now) c.args.list.now c.args.inference.now.solver c.args.inference.now.environment tt (none_of c.args.list.now (is_zero _ (sym c.is_empty.ensures ∙ c.if-is_empty.true))) (problem_below c.args.inference.now.solver c.well_formed-2.ensures) c.requires

pub check_list-groups-init : goal.check_list-groups-init
check_list-groups-init t c =
    let k = (known_of c.args.list.now.constructors.now) in
    record {
      sized = (let l = c.in_ok-types.ensures.len in omega (arith, l, c.in_ok-types.types.ok.0));
      numbers = zeroes_up_to c.args.inference.now.solver.given (length c.args.list.now.found.now.numbers) c.in_ok-types.types.items (search rules);
      assumed = c.in_ok-bind_signed.ensures.given c.args.inference.now.solver.given c.requires.assumed;
      added = c.bind_signed.ensures.kept;
      closed = c.in_ok-bind_signed.ensures.given 0;
      stage = signed_start k c.args.list.now.decls.now (lists c.args.list.now.found.now.groups.items) (length c.args.list.now.found.now.numbers) (c.requires.distinct k) (c.requires.groups k) c.args.inference.now.solver c.args.inference.now.environment c.bind_signed.new.environment (c.in_ok-bind_signed.ensures.bound k) (problem_below c.args.inference.now.solver c.well_formed-2.ensures);
    }

pub check_list-infer_group-requires : goal.check_list-infer_group-requires
check_list-infer_group-requires t c =
    let k = (known_of c.args.list.now.constructors.now) in
    let gs = lists c.args.list.now.found.now.groups.items in
    let n = length c.args.list.now.found.now.numbers in
    let name = node_name k (declarations c.args.list.now.decls.now) in
    let low : c.groups.i < length c.args.list.now.found.now.groups.items = (let h = c.groups-test.true in omega (arith, h, c.len-i-end.ensures, c.args.list.now.found.now.groups.ok.0)) in
    let within : c.groups.i < length gs = rows_long c.args.list.now.found.now.groups.items c.groups.i low in
    let here : c.deref.result.now ≡ get_or gs c.groups.i c.deref.result.now = group_at c.args.list.now.found.now.groups.items c.groups.i c.index.result.now c.deref.result.now low c.index.ensures c.deref.ensures.value in
    let are = c.requires.groups k in
    let v = c.groups.invariant in
    let same = c.deref_mut.ensures.value in (
      omega arith,
      (
        record { nodes_are = c.requires.nodes; rows_are = c.requires.rows; apart = are.one_number },
        (
          group_below (list_of k c.args.list.now.decls.now) name n gs c.groups.i c.deref.result.now are within here,
          (
            ap length same ∙ v.sized,
            (
              group_some (list_of k c.args.list.now.decls.now) name n gs c.groups.i c.deref.result.now are within here,
              (
                subst (AreUpTo c.groups.inference.solver.given) (sym same) v.numbers,
                v.assumed,
              ),
            ),
          ),
        ),
      ),
    )

pub check_list-returns-in_err-infer_group-clause-listed : goal.check_list-returns-in_err-infer_group-clause-listed
check_list-returns-in_err-infer_group-clause-listed t c =
    let k = (known_of c.args.list.now.constructors.now) in
    let gs = lists c.args.list.now.found.now.groups.items in
    let n = length c.args.list.now.found.now.numbers in
    let name = node_name k (declarations c.args.list.now.decls.now) in
    let low : c.groups.i < length c.args.list.now.found.now.groups.items = (let h = c.groups-test.true in omega (arith, h, c.len-i-end.ensures, c.args.list.now.found.now.groups.ok.0)) in
    let within : c.groups.i < length gs = rows_long c.args.list.now.found.now.groups.items c.groups.i low in
    let here : c.deref.result.now ≡ get_or gs c.groups.i c.deref.result.now = group_at c.args.list.now.found.now.groups.items c.groups.i c.index.result.now c.deref.result.now low c.index.ensures c.deref.ensures.value in
    let are = c.requires.groups k in
    let v = c.groups.invariant in
    listed_passed (Unit {0}) (list_of k c.args.list.now.decls.now) c.args.inference.now.solver c.args.inference.now.environment c.infer_group.new.inference.solver c.infer_group.new.inference.environment c.from_residual-in_err-infer_group.result c.in_err-infer_group.field-0.0 c.from_residual-in_err-infer_group.ensures.1
    (list_refused (Unit {0}) k c.args.list.now.decls.now gs c.groups.i c.deref.result.now c.args.inference.now.solver c.groups.inference.solver c.infer_group.new.inference.solver c.args.inference.now.environment c.groups.inference.environment c.infer_group.new.inference.environment c.in_err-infer_group.field-0.0 within here c.requires.assumed v.stage (c.in_err-infer_group.ensures.inferred v.added.0 c.args.inference.now.environment v.added.1))

pub check_list-groups-preserved : goal.check_list-groups-preserved
check_list-groups-preserved t c =
    let k = (known_of c.args.list.now.constructors.now) in
    let gs = lists c.args.list.now.found.now.groups.items in
    let n = length c.args.list.now.found.now.numbers in
    let name = node_name k (declarations c.args.list.now.decls.now) in
    let low : c.groups.i < length c.args.list.now.found.now.groups.items = (let h = c.groups-test.true in omega (arith, h, c.len-i-end.ensures, c.args.list.now.found.now.groups.ok.0)) in
    let within : c.groups.i < length gs = rows_long c.args.list.now.found.now.groups.items c.groups.i low in
    let here : c.deref.result.now ≡ get_or gs c.groups.i c.deref.result.now = group_at c.args.list.now.found.now.groups.items c.groups.i c.index.result.now c.deref.result.now low c.index.ensures c.deref.ensures.value in
    let are = c.requires.groups k in
    let v = c.groups.invariant in
    let kept : length c.infer_group.new.types ≡ length c.groups.types.items = c.infer_group.auto.types ∙ ap length c.deref_mut.ensures.value in
    let new = written_to c.infer_group.new.types c.groups.types.items c.groups.types.len (c.groups.types.ok.0) kept in
    subst (λ z. GroupsInferred k c.args.list.now.decls.now gs n z (c.groups.i + 1) c.args.inference.now.solver c.args.inference.now.environment c.infer_group.new.inference.solver c.infer_group.new.inference.environment) (sym new)
    (next_stage k c.args.list.now.decls.now gs n c.groups.i c.groups.types.items c.infer_group.new.types c.deref.result.now c.args.inference.now.solver c.groups.inference.solver c.infer_group.new.inference.solver c.args.inference.now.environment c.groups.inference.environment c.infer_group.new.inference.environment c.requires.assumed v within here (c.in_ok-infer_group.ensures.inferred v.added.0 c.args.inference.now.environment v.added.1) (kept ∙ v.sized) c.in_ok-infer_group.ensures.numbers c.in_ok-infer_group.ensures.assumed c.infer_group.ensures.kept (c.in_ok-infer_group.ensures.closed v.added.0 c.args.inference.now.environment v.added.1))

pub check_list-returns-clause-listed : goal.check_list-returns-clause-listed
check_list-returns-clause-listed t c =
    let k = (known_of c.args.list.now.constructors.now) in
    let v = c.groups.invariant in
    let last : length c.args.list.now.found.now.groups.items ≤ c.groups.i = (let h = c.groups-test.false in omega (arith, h, c.len-i-end.ensures, c.args.list.now.found.now.groups.ok.0)) in
    signed_end k c.args.list.now.decls.now (lists c.args.list.now.found.now.groups.items) c.groups.i c.args.inference.now.solver c.groups.inference.solver c.args.inference.now.environment c.groups.inference.environment (subst (λ z. z ≤ c.groups.i) (sym (length-map c.args.list.now.found.now.groups.items (λ r. r.items))) last) c.requires.assumed v.stage c.check_all_signed.new.inference.solver c.check_all_signed.new.inference.environment c.in_ok-check_all_signed.ensures.same v.assumed v.added c.in_ok-check_all_signed.ensures.answers

pub check_list-returns-clause-closed : goal.check_list-returns-clause-closed
check_list-returns-clause-closed t c = λ a. subst (AreAssumed 0) (sym c.in_ok-check_all_signed.ensures.same) (c.groups.invariant.closed a)

pub check_member-check_clause-requires-in-Pattern : goal.check_member-check_clause-requires-in-Pattern
check_member-check_clause-requires-in-Pattern t c =
    let y = ap declaration_size (sym (ap declaration_tree c.in-Pattern.is) ∙ c.decl.view_is) in
    let l = c.in_ok-match_binding-in-Pattern.ensures.grows in
    let h = c.requires.given c.args.node.now.own c.requires.own in
    (omega (arith, y), (omega (arith, h, l), assumed_at c.args.inference.now.solver c.match_binding.new.solver c.args.inference.now.environment c.args.inference.now.environment refl l c.requires.assumed))

pub check_member-returns-in-Clause-clause-answers : goal.check_member-returns-in-Clause-clause-answers
check_member-returns-in-Clause-clause-answers t c = λ τ h.
    subst (λ d. Answers (AsksMember (known_of c.args.constructors.now) c.args.node.now.types.now c.args.node.now.own τ d c.args.inference.now.environment) c.args.inference.now.solver c.check_clause.new.inference.solver c.check_clause.result) (sym (ap declaration_tree c.in-Clause.is) ∙ c.decl.view_is)
    (clause_member (known_of c.args.constructors.now) c.in-Clause.name c.in-Clause.pats.items c.in-Clause.rhs c.args.node.now.types.now c.args.node.now.own τ c.args.inference.now.environment c.args.inference.now.solver c.check_clause.new.inference.solver c.check_clause.result
    (subst (λ ps. Answers (ChecksClause (known_of c.args.constructors.now) ps c.in-Clause.rhs (Var (var (get_or c.args.node.now.types.now c.args.node.now.own 0))) c.args.inference.now.environment) c.args.inference.now.solver c.check_clause.new.inference.solver c.check_clause.result) c.deref.ensures.value c.check_clause.ensures.answers))

pub check_member-returns-in_ok-match_binding-in-Pattern-clause-answers : goal.check_member-returns-in_ok-match_binding-in-Pattern-clause-answers
check_member-returns-in_ok-match_binding-in-Pattern-clause-answers t c = λ τ h.
    let e = sym (ap declaration_tree c.in-Pattern.is) ∙ c.decl.view_is in
    let k = known_of c.args.constructors.now in
    let b = subst (λ d. HaveTypesOf k τ c.args.node.now.types.now c.args.node.now.own d) (sym e) h in
    subst (λ d. Answers (AsksMember k c.args.node.now.types.now c.args.node.now.own τ d c.args.inference.now.environment) c.args.inference.now.solver c.check_clause-in-Pattern.new.inference.solver c.check_clause-in-Pattern.result) e
    (pattern_member k c.in-Pattern.place.line c.in-Pattern.place.column c.in-Pattern.pat c.in-Pattern.rhs c.args.node.now.types.now c.args.node.now.own τ c.args.inference.now.environment c.args.inference.now.solver c.match_binding.new.solver c.check_clause-in-Pattern.new.inference.solver c.check_clause-in-Pattern.result c.requires.assumed c.requires.given c.requires.own (c.in_ok-match_binding-in-Pattern.ensures.answers τ b) c.check_clause-in-Pattern.ensures.answers)

pub check_members-members-init : goal.check_members-members-init
check_members-members-init t c = record { same = refl; grows = omega arith; checked = λ τ h. members_none (known_of c.args.constructors.now) c.args.decls.now c.args.types.now τ c.args.members.now c.args.inference.now.environment c.args.inference.now.solver (problem_below c.args.inference.now.solver c.well_formed-2.ensures) }

pub check_members-offset_bounds-decls-member : goal.check_members-offset_bounds-decls-member
check_members-offset_bounds-decls-member t c = let h = (c.requires.members (get_or c.args.members.now c.members.j (record { place = 0; node = 0 })) (is_member c.args.members.now c.members.j (record { place = 0; node = 0 }) c.members-test.true)).0 in search rules

pub check_members-bounds-decls-member : goal.check_members-bounds-decls-member
check_members-bounds-decls-member t c = (c.requires.members (get_or c.args.members.now c.members.j (record { place = 0; node = 0 })) (is_member c.args.members.now c.members.j (record { place = 0; node = 0 }) c.members-test.true)).0

pub check_members-check_member-requires : goal.check_members-check_member-requires
check_members-check_member-requires t c =
    let m = (get_or c.args.members.now c.members.j (record { place = 0; node = 0 })) in
    let o = is_member c.args.members.now c.members.j (record { place = 0; node = 0 }) c.members-test.true in
    let a = c.requires.members m o in
    let here = declaration_at c.args.decls.now m.place c.index-decls-member.result a.0 c.index-decls-member.is in
    let l = c.members.invariant.grows in
    let smaller = declaration_falls c.args.decls.now m.place c.index-decls-member.result a.0 c.index-decls-member.is in
    (omega (arith, smaller), (a.1.0, (a.1.1 c.index-decls-member.result here, (types_later c.args.inference.now.solver.given c.members.inference.solver.given c.args.types.now l c.requires.given, assumed_at c.args.inference.now.solver c.members.inference.solver c.args.inference.now.environment c.members.inference.environment c.members.invariant.same l c.requires.assumed))))

pub check_members-returns-in_err-check_member-clause-answers : goal.check_members-returns-in_err-check_member-clause-answers
check_members-returns-in_err-check_member-clause-answers t c = λ τ h.
    let m = (get_or c.args.members.now c.members.j (record { place = 0; node = 0 })) in
    let o = is_member c.args.members.now c.members.j (record { place = 0; node = 0 }) c.members-test.true in
    let a = c.requires.members m o in
    let here = declaration_at c.args.decls.now m.place c.index-decls-member.result a.0 c.index-decls-member.is in
    let k = known_of c.args.constructors.now in
    refused_by (MembersHave k c.args.decls.now c.args.types.now τ c.args.members.now (assumptions c.args.inference.now.environment)) c.args.inference.now.solver c.check_member.new.inference.solver c.from_residual.result c.in_err-check_member.field-0.0 c.from_residual.ensures.1
    (members_refused k c.args.decls.now c.args.types.now τ c.args.members.now c.members.j m c.index-decls-member.result c.args.inference.now.environment c.args.inference.now.solver c.members.inference.solver c.members-test.true (same_member c.args.members.now c.members.j (record { place = 0; node = 0 }) c.members-test.true) here c.requires.assumed c.requires.given c.requires.members h (c.members.invariant.checked τ h) c.in_err-check_member.field-0.0
    (subst (λ es. Refuses (AsksMember k c.args.types.now m.node τ c.index-decls-member.result es) c.members.inference.solver c.in_err-check_member.field-0.0) c.members.invariant.same (c.in_err-check_member.ensures.answers τ (h m o c.index-decls-member.result here))))

pub check_members-members-preserved : goal.check_members-members-preserved
check_members-members-preserved t c =
    let m = (get_or c.args.members.now c.members.j (record { place = 0; node = 0 })) in
    let o = is_member c.args.members.now c.members.j (record { place = 0; node = 0 }) c.members-test.true in
    let a = c.requires.members m o in
    let here = declaration_at c.args.decls.now m.place c.index-decls-member.result a.0 c.index-decls-member.is in
    let k = known_of c.args.constructors.now in
    record {
      same = c.in_ok-check_member.ensures.same ∙ c.members.invariant.same;
      grows = (let g = c.members.invariant.grows in let l = c.in_ok-check_member.ensures.grows in omega (arith, g, l));
      checked = λ τ h. members_more k c.args.decls.now c.args.types.now τ c.args.members.now c.members.j m c.index-decls-member.result c.args.inference.now.environment c.args.inference.now.solver c.members.inference.solver c.members-test.true (same_member c.args.members.now c.members.j (record { place = 0; node = 0 }) c.members-test.true) here c.requires.assumed c.requires.given c.requires.members h (c.members.invariant.checked τ h) c.check_member.new.inference.solver
          (subst (λ es. SolvedBy (AsksMember k c.args.types.now m.node τ c.index-decls-member.result es) c.members.inference.solver c.check_member.new.inference.solver) c.members.invariant.same (c.in_ok-check_member.ensures.answers τ (h m o c.index-decls-member.result here)));
    }

pub check_members-returns-clause-answers : goal.check_members-returns-clause-answers
check_members-returns-clause-answers t c = λ τ h. members_all (known_of c.args.constructors.now) c.args.decls.now c.args.types.now τ c.args.members.now c.members.j c.args.inference.now.environment c.args.inference.now.solver c.members.inference.solver c.members-test.false (c.members.invariant.checked τ h)

pub infer_group-check_members-requires : goal.infer_group-check_members-requires
infer_group-check_members-requires t c =
    let o = c.in_ok-members.ensures.opened in
    (omega arith, (group_members_are (known_of c.args.list.now.constructors.now) c.args.list.now.decls.now c.args.list.now.found.now.numbers (lists c.args.list.now.found.now.rows.items) c.args.group.now c.open_group.new.types c.deref.result.now c.args.inference.now.solver c.args.inference.now.environment c.open_group.new.inference.solver c.open_group.new.inference.environment c.requires.list c.requires.nodes (subst (λ z. IsOpenGroup c.args.list.now.found.now.numbers (lists c.args.list.now.found.now.rows.items) c.args.group.now c.args.inference.now.solver c.args.inference.now.environment c.open_group.new.inference.solver c.open_group.new.inference.environment c.open_group.new.types z) (sym c.deref.ensures.value) c.in_ok-members.ensures.opened) (length c.open_group.new.types) (omega (arith, c.requires.types, c.open_group.auto.types)), (o.numbers, o.assumed)))

pub infer_group-returns-in_err-check_members-clause-inferred : goal.infer_group-returns-in_err-check_members-clause-inferred
infer_group-returns-in_err-check_members-clause-inferred t c = λ added base e.
    infers_passed (Unit {0}) (known_of c.args.list.now.constructors.now) c.args.list.now.decls.now c.args.group.now base c.args.inference.now.solver c.args.inference.now.environment c.check_members.new.inference.solver c.check_members.new.inference.environment c.from_residual-in_err-check_members.result c.in_err-check_members.field-0.0 c.from_residual-in_err-check_members.ensures.1
    (infers_refused (known_of c.args.list.now.constructors.now) c.args.list.now.decls.now c.args.list.now.found.now.numbers (lists c.args.list.now.found.now.rows.items) c.args.group.now c.open_group.new.types c.deref.result.now c.args.inference.now.solver c.args.inference.now.environment c.open_group.new.inference.solver c.open_group.new.inference.environment c.requires.list c.requires.nodes (subst (λ z. IsOpenGroup c.args.list.now.found.now.numbers (lists c.args.list.now.found.now.rows.items) c.args.group.now c.args.inference.now.solver c.args.inference.now.environment c.open_group.new.inference.solver c.open_group.new.inference.environment c.open_group.new.types z) (sym c.deref.ensures.value) c.in_ok-members.ensures.opened) (Unit {0}) base c.check_members.new.inference.solver c.check_members.new.inference.environment c.in_err-check_members.field-0.0 c.in_err-check_members.ensures.answers)

pub infer_group-returns-in_err-check_members-clause-judged : goal.infer_group-returns-in_err-check_members-clause-judged
infer_group-returns-in_err-check_members-clause-judged t c = λ added base e.
    judges_passed (Unit {0}) (known_of c.args.list.now.constructors.now) c.args.list.now.decls.now c.args.group.now base c.args.inference.now.solver c.args.inference.now.environment c.check_members.new.inference.environment c.from_residual-in_err-check_members.result c.in_err-check_members.field-0.0 c.from_residual-in_err-check_members.ensures.1
    (judges_refused (known_of c.args.list.now.constructors.now) c.args.list.now.decls.now c.args.list.now.found.now.numbers (lists c.args.list.now.found.now.rows.items) c.args.group.now c.open_group.new.types c.deref.result.now c.args.inference.now.solver c.args.inference.now.environment c.open_group.new.inference.solver c.open_group.new.inference.environment c.requires.list c.requires.nodes (subst (λ z. IsOpenGroup c.args.list.now.found.now.numbers (lists c.args.list.now.found.now.rows.items) c.args.group.now c.args.inference.now.solver c.args.inference.now.environment c.open_group.new.inference.solver c.open_group.new.inference.environment c.open_group.new.types z) (sym c.deref.ensures.value) c.in_ok-members.ensures.opened) base (Unit {0}) c.check_members.new.inference.solver c.check_members.new.inference.environment c.in_err-check_members.field-0.0 c.in_err-check_members.ensures.answers)

pub infer_group-close_group-requires-clause-numbers : goal.infer_group-close_group-requires-clause-numbers
infer_group-close_group-requires-clause-numbers t c = types_later c.open_group.new.inference.solver.given c.check_members.new.inference.solver.given c.open_group.new.types c.in_ok-check_members.ensures.grows c.in_ok-members.ensures.opened.numbers

pub infer_group-close_group-requires-clause-assumed : goal.infer_group-close_group-requires-clause-assumed
infer_group-close_group-requires-clause-assumed t c =
    let o = c.in_ok-members.ensures.opened in
    let back : c.truncate.new.self ≡ c.args.inference.now.environment = c.truncate.ensures o.added.0 c.args.inference.now.environment (c.in_ok-check_members.ensures.same ∙ o.added.1) (sym c.len-inner.ensures) in
    assumed_at c.args.inference.now.solver c.check_members.new.inference.solver c.args.inference.now.environment c.truncate.new.self back (let g = ap (λ z. z.given) o.given in let h = c.in_ok-check_members.ensures.grows in omega (arith, g, h)) c.requires.assumed

pub infer_group-returns-clause-inferred : goal.infer_group-returns-clause-inferred
infer_group-returns-clause-inferred t c = λ added base e.
    let o = c.in_ok-members.ensures.opened in
    let back : c.truncate.new.self ≡ c.args.inference.now.environment = c.truncate.ensures o.added.0 c.args.inference.now.environment (c.in_ok-check_members.ensures.same ∙ o.added.1) (sym c.len-inner.ensures) in
    infers_solved (known_of c.args.list.now.constructors.now) c.args.list.now.decls.now c.args.list.now.found.now.numbers (lists c.args.list.now.found.now.rows.items) c.args.group.now c.open_group.new.types c.deref.result.now c.args.inference.now.solver c.args.inference.now.environment c.open_group.new.inference.solver c.open_group.new.inference.environment c.requires.list c.requires.nodes (subst (λ z. IsOpenGroup c.args.list.now.found.now.numbers (lists c.args.list.now.found.now.rows.items) c.args.group.now c.args.inference.now.solver c.args.inference.now.environment c.open_group.new.inference.solver c.open_group.new.inference.environment c.open_group.new.types z) (sym c.deref.ensures.value) c.in_ok-members.ensures.opened) (Unit {0}) added base c.check_members.new.inference.solver c.close_group.new.environment tt e c.in_ok-check_members.ensures.answers
    (subst (λ n. IsClosedGroup c.args.list.now.found.now.numbers c.args.group.now c.open_group.new.types n c.check_members.new.inference.solver c.args.inference.now.environment c.close_group.new.environment) c.given-older.ensures
    (subst (λ z. IsClosedGroup c.args.list.now.found.now.numbers c.args.group.now c.open_group.new.types c.given-older.result c.check_members.new.inference.solver z c.close_group.new.environment) back c.in_ok-close_group.ensures.closed))

pub infer_group-returns-clause-judged : goal.infer_group-returns-clause-judged
infer_group-returns-clause-judged t c = λ added base e.
    let o = c.in_ok-members.ensures.opened in
    let back : c.truncate.new.self ≡ c.args.inference.now.environment = c.truncate.ensures o.added.0 c.args.inference.now.environment (c.in_ok-check_members.ensures.same ∙ o.added.1) (sym c.len-inner.ensures) in
    judges_solved (known_of c.args.list.now.constructors.now) c.args.list.now.decls.now c.args.list.now.found.now.numbers (lists c.args.list.now.found.now.rows.items) c.args.group.now c.open_group.new.types c.deref.result.now c.args.inference.now.solver c.args.inference.now.environment c.open_group.new.inference.solver c.open_group.new.inference.environment c.requires.list c.requires.nodes (subst (λ z. IsOpenGroup c.args.list.now.found.now.numbers (lists c.args.list.now.found.now.rows.items) c.args.group.now c.args.inference.now.solver c.args.inference.now.environment c.open_group.new.inference.solver c.open_group.new.inference.environment c.open_group.new.types z) (sym c.deref.ensures.value) c.in_ok-members.ensures.opened) base (Unit {0}) added c.check_members.new.inference.solver c.close_group.new.environment tt e c.in_ok-check_members.ensures.answers
    (subst (λ n. IsClosedGroup c.args.list.now.found.now.numbers c.args.group.now c.open_group.new.types n c.check_members.new.inference.solver c.args.inference.now.environment c.close_group.new.environment) c.given-older.ensures
    (subst (λ z. IsClosedGroup c.args.list.now.found.now.numbers c.args.group.now c.open_group.new.types c.given-older.result c.check_members.new.inference.solver z c.close_group.new.environment) back c.in_ok-close_group.ensures.closed))

pub infer_group-returns-clause-numbers : goal.infer_group-returns-clause-numbers
infer_group-returns-clause-numbers t c = given_up_to c.check_members.new.inference.solver.given c.open_group.new.types (types_later c.open_group.new.inference.solver.given c.check_members.new.inference.solver.given c.open_group.new.types c.in_ok-check_members.ensures.grows c.in_ok-members.ensures.opened.numbers)

pub infer_group-returns-clause-closed : goal.infer_group-returns-clause-closed
infer_group-returns-clause-closed t c = λ added base e.
    let o = c.in_ok-members.ensures.opened in
    let back : c.truncate.new.self ≡ c.args.inference.now.environment = c.truncate.ensures o.added.0 c.args.inference.now.environment (c.in_ok-check_members.ensures.same ∙ o.added.1) (sym c.len-inner.ensures) in
    let s2 = c.check_members.new.inference.solver in
    closes_group (known_of c.args.list.now.constructors.now) c.args.list.now.decls.now c.args.list.now.found.now.numbers (lists c.args.list.now.found.now.rows.items) c.args.group.now c.open_group.new.types c.deref.result.now c.args.inference.now.solver c.args.inference.now.environment c.open_group.new.inference.solver c.open_group.new.inference.environment c.requires.list c.requires.nodes (subst (λ z. IsOpenGroup c.args.list.now.found.now.numbers (lists c.args.list.now.found.now.rows.items) c.args.group.now c.args.inference.now.solver c.args.inference.now.environment c.open_group.new.inference.solver c.open_group.new.inference.environment c.open_group.new.types z) (sym c.deref.ensures.value) c.in_ok-members.ensures.opened) base c.check_members.new.inference.solver c.close_group.new.environment c.in_ok-check_members.ensures.answers
    (subst (λ n. IsClosedGroup c.args.list.now.found.now.numbers c.args.group.now c.open_group.new.types n c.check_members.new.inference.solver c.args.inference.now.environment c.close_group.new.environment) c.given-older.ensures
    (subst (λ z. IsClosedGroup c.args.list.now.found.now.numbers c.args.group.now c.open_group.new.types c.given-older.result c.check_members.new.inference.solver z c.close_group.new.environment) back c.in_ok-close_group.ensures.closed))
    (λ none a. c.in_ok-close_group.ensures.closed_alone (subst (λ n. KeepsNone (is_outer c.check_members.new.inference.solver.equations n) c.check_members.new.inference.solver.equations c.open_group.new.types c.args.group.now) (sym c.given-older.ensures) none) (subst (AreAssumed 0) (sym back) a))

pub infer_group-returns-clause-closed_first : goal.infer_group-returns-clause-closed_first
infer_group-returns-clause-closed_first t c = λ z a.
    let o = c.in_ok-members.ensures.opened in
    let back : c.truncate.new.self ≡ c.args.inference.now.environment = c.truncate.ensures o.added.0 c.args.inference.now.environment (c.in_ok-check_members.ensures.same ∙ o.added.1) (sym c.len-inner.ensures) in
    c.in_ok-close_group.ensures.closed_alone (none_older c.given-older.result c.check_members.new.inference.solver.equations c.open_group.new.types c.args.group.now (c.given-older.ensures ∙ z)) (subst (AreAssumed 0) (sym back) a)

pub infer_group-returns-clause-kept : goal.infer_group-returns-clause-kept
infer_group-returns-clause-kept t c =
    let o = c.in_ok-members.ensures.opened in
    let back : c.truncate.new.self ≡ c.args.inference.now.environment = c.truncate.ensures o.added.0 c.args.inference.now.environment (c.in_ok-check_members.ensures.same ∙ o.added.1) (sym c.len-inner.ensures) in
    subst (λ z. Extends z c.close_group.new.environment) back c.close_group.ensures.kept

pub check_member-returns-in-Clause-clause-grows : goal.check_member-returns-in-Clause-clause-grows
check_member-returns-in-Clause-clause-grows t c = answers_grow _ c.args.inference.now.solver c.check_clause.new.inference.solver c.check_clause.result c.check_clause.ensures.answers

pub check_member-returns-in_ok-match_binding-in-Pattern-clause-grows : goal.check_member-returns-in_ok-match_binding-in-Pattern-clause-grows
check_member-returns-in_ok-match_binding-in-Pattern-clause-grows t c = later_grow c.args.inference.now.solver c.match_binding.new.solver c.check_clause-in-Pattern.new.inference.solver c.check_clause-in-Pattern.result c.in_ok-match_binding-in-Pattern.ensures.grows (answers_grow _ c.match_binding.new.solver c.check_clause-in-Pattern.new.inference.solver c.check_clause-in-Pattern.result c.check_clause-in-Pattern.ensures.answers)

pub check_member-returns-in-DataType-clause-answers : goal.check_member-returns-in-DataType-clause-answers
check_member-returns-in-DataType-clause-answers t c = λ τ h. subst (λ d. SolvedBy (AsksMember (known_of c.args.constructors.now) c.args.node.now.types.now c.args.node.now.own τ d c.args.inference.now.environment) c.args.inference.now.solver c.args.inference.now.solver) (sym (ap declaration_tree c.in-DataType.is) ∙ c.decl.view_is) (solved_nothing c.args.inference.now.solver (problem_below c.args.inference.now.solver c.well_formed-2.ensures))

pub check_member-returns-in-Newtype-clause-answers : goal.check_member-returns-in-Newtype-clause-answers
check_member-returns-in-Newtype-clause-answers t c = λ τ h. subst (λ d. SolvedBy (AsksMember (known_of c.args.constructors.now) c.args.node.now.types.now c.args.node.now.own τ d c.args.inference.now.environment) c.args.inference.now.solver c.args.inference.now.solver) (sym (ap declaration_tree c.in-Newtype.is) ∙ c.decl.view_is) (solved_nothing c.args.inference.now.solver (problem_below c.args.inference.now.solver c.well_formed-2.ensures))

pub check_member-returns-in-Synonym-clause-answers : goal.check_member-returns-in-Synonym-clause-answers
check_member-returns-in-Synonym-clause-answers t c = λ τ h. subst (λ d. SolvedBy (AsksMember (known_of c.args.constructors.now) c.args.node.now.types.now c.args.node.now.own τ d c.args.inference.now.environment) c.args.inference.now.solver c.args.inference.now.solver) (sym (ap declaration_tree c.in-Synonym.is) ∙ c.decl.view_is) (solved_nothing c.args.inference.now.solver (problem_below c.args.inference.now.solver c.well_formed-2.ensures))

pub check_member-returns-in-Signature-clause-answers : goal.check_member-returns-in-Signature-clause-answers
check_member-returns-in-Signature-clause-answers t c = λ τ h. subst (λ d. SolvedBy (AsksMember (known_of c.args.constructors.now) c.args.node.now.types.now c.args.node.now.own τ d c.args.inference.now.environment) c.args.inference.now.solver c.args.inference.now.solver) (sym (ap declaration_tree c.in-Signature.is) ∙ c.decl.view_is) (solved_nothing c.args.inference.now.solver (problem_below c.args.inference.now.solver c.well_formed-2.ensures))

pub check_signed-returns-in_default-clause-answers : goal.check_signed-returns-in_default-clause-answers
check_signed-returns-in_default-clause-answers t c = λ all a.
    other_asked (known_of c.args.constructors.now) all c.args.decl.now c.args.inference.now.environment c.args.inference.now.solver (is_other _ c.args.decl.now c.decl.view_is (λ n ps r e. c.in_default.not-Clause n ps r e)) (problem_below c.args.inference.now.solver c.well_formed-2.ensures)

pub check_signed-returns-in_default-declared_for-clause-answers : goal.check_signed-returns-in_default-declared_for-clause-answers
check_signed-returns-in_default-declared_for-clause-answers t c = λ all a.
    let known = known_of c.args.constructors.now in
    subst (λ d. SolvedBy (SignedAsks known all d c.args.inference.now.environment) c.args.inference.now.solver c.args.inference.now.solver) (sym (ap declaration_tree c.in-Clause.is) ∙ c.decl.view_is)
    (unsigned_asked known all c.in-Clause.name c.in-Clause.pats.items c.in-Clause.rhs c.args.inference.now.environment c.args.inference.now.solver
    (sym (a c.in-Clause.name.text) ∙ (sym c.declared_for.ensures ∙ ap (option_map (λ t. declared_type t.now)) c.in_default-declared_for.is))
    (problem_below c.args.inference.now.solver c.well_formed-2.ensures))

pub check_signed-check_clause-requires : goal.check_signed-check_clause-requires
check_signed-check_clause-requires t c =
    let y = ap declaration_size (sym (ap declaration_tree c.in-Clause.is) ∙ c.decl.view_is) in
    let k = given_next c.args.inference.now.solver c.with_rigid_variables.new.solver c.in_ok-declared.declared.count c.in_ok-own.ensures.next in
    (omega (arith, y), (c.in_ok-own.ensures.given, assumed_at c.args.inference.now.solver c.with_rigid_variables.new.solver c.args.inference.now.environment c.args.inference.now.environment refl k c.requires.assumed))

pub check_signed-returns-in_err-check_clause-clause-answers : goal.check_signed-returns-in_err-check_clause-clause-answers
check_signed-returns-in_err-check_clause-clause-answers t c = λ all a.
    let known = known_of c.args.constructors.now in
    let es = c.args.inference.now.environment in
    let s = c.args.inference.now.solver in
    let s1 = c.with_rigid_variables.new.solver in
    let s2 = c.check_clause.new.inference.solver in
    let body = type_of c.in_ok-declared.declared.body in
    let own = type_of c.in_ok-own.own.body in
    let count = c.in_ok-declared.declared.count in
    let first = c.in_ok-own.own.first in
    let taken : IsTaken s s1 count first body own = record { next = c.in_ok-own.ensures.next; from = c.in_ok-own.ensures.first; shape = c.in_ok-own.ensures.body; below = c.in_ok-own.ensures.below; given = c.in_ok-declared.ensures.given } in
    let fault = c.in_err-check_clause.field-0.0 in
    let is = sym (a c.in-Clause.name.text) ∙ (sym c.declared_for.ensures ∙ (ap (option_map (λ t. declared_type t.now)) c.in-Some.is ∙ ap Some (sym c.in_ok-declared.ensures.body))) in
    subst (λ d. Answers (SignedAsks known all d es) s s2 c.from_residual-in_err-check_clause.result) (sym (ap declaration_tree c.in-Clause.is) ∙ c.decl.view_is)
    (refused_by (SignedAsks known all (clause_tree c.in-Clause.name (patterns c.in-Clause.pats.items) c.in-Clause.rhs) es) s s2 c.from_residual-in_err-check_clause.result fault c.from_residual-in_err-check_clause.ensures.1
    (clause_refused known all c.in-Clause.name c.in-Clause.pats.items c.in-Clause.rhs es s body own count first s1 is c.requires.assumed taken fault
    (subst (λ ps. Refuses (ChecksClause known ps c.in-Clause.rhs own es) s1 fault) c.deref.ensures.value c.in_err-check_clause.ensures.answers)))

pub check_signed-returns-in_err-forbid_escape-clause-answers : goal.check_signed-returns-in_err-forbid_escape-clause-answers
check_signed-returns-in_err-forbid_escape-clause-answers t c = λ all a.
    let known = known_of c.args.constructors.now in
    let es = c.args.inference.now.environment in
    let s = c.args.inference.now.solver in
    let s1 = c.with_rigid_variables.new.solver in
    let s2 = c.check_clause.new.inference.solver in
    let body = type_of c.in_ok-declared.declared.body in
    let own = type_of c.in_ok-own.own.body in
    let count = c.in_ok-declared.declared.count in
    let first = c.in_ok-own.own.first in
    let taken : IsTaken s s1 count first body own = record { next = c.in_ok-own.ensures.next; from = c.in_ok-own.ensures.first; shape = c.in_ok-own.ensures.body; below = c.in_ok-own.ensures.below; given = c.in_ok-declared.ensures.given } in
    let fault = c.in_err-forbid_escape.field-0.0 in
    let is = sym (a c.in-Clause.name.text) ∙ (sym c.declared_for.ensures ∙ (ap (option_map (λ t. declared_type t.now)) c.in-Some.is ∙ ap Some (sym c.in_ok-declared.ensures.body))) in
    subst (λ d. Answers (SignedAsks known all d es) s s2 c.from_residual-in_err-forbid_escape.result) (sym (ap declaration_tree c.in-Clause.is) ∙ c.decl.view_is)
    (refused_by (SignedAsks known all (clause_tree c.in-Clause.name (patterns c.in-Clause.pats.items) c.in-Clause.rhs) es) s s2 c.from_residual-in_err-forbid_escape.result fault c.from_residual-in_err-forbid_escape.ensures.1
    (clause_escapes known all c.in-Clause.name c.in-Clause.pats.items c.in-Clause.rhs es s body own count first s1 is c.requires.assumed taken s2 fault
    (subst (λ ps. SolvedBy (ChecksClause known ps c.in-Clause.rhs own es) s1 s2) c.deref.ensures.value c.in_ok-check_clause.ensures.answers)
    c.in_err-forbid_escape.ensures))

pub check_signed-returns-clause-answers : goal.check_signed-returns-clause-answers
check_signed-returns-clause-answers t c = λ all a.
    let known = known_of c.args.constructors.now in
    let es = c.args.inference.now.environment in
    let s = c.args.inference.now.solver in
    let s1 = c.with_rigid_variables.new.solver in
    let s2 = c.check_clause.new.inference.solver in
    let body = type_of c.in_ok-declared.declared.body in
    let own = type_of c.in_ok-own.own.body in
    let count = c.in_ok-declared.declared.count in
    let first = c.in_ok-own.own.first in
    let taken : IsTaken s s1 count first body own = record { next = c.in_ok-own.ensures.next; from = c.in_ok-own.ensures.first; shape = c.in_ok-own.ensures.body; below = c.in_ok-own.ensures.below; given = c.in_ok-declared.ensures.given } in
    let is = sym (a c.in-Clause.name.text) ∙ (sym c.declared_for.ensures ∙ (ap (option_map (λ t. declared_type t.now)) c.in-Some.is ∙ ap Some (sym c.in_ok-declared.ensures.body))) in
    subst (λ d. SolvedBy (SignedAsks known all d es) s s2) (sym (ap declaration_tree c.in-Clause.is) ∙ c.decl.view_is)
    (clause_signed known all c.in-Clause.name c.in-Clause.pats.items c.in-Clause.rhs es s body own count first s1 is c.requires.assumed taken s2 c.in_ok-forbid_escape.field-0
    (subst (λ ps. SolvedBy (ChecksClause known ps c.in-Clause.rhs own es) s1 s2) c.deref.ensures.value c.in_ok-check_clause.ensures.answers)
    c.in_ok-forbid_escape.ensures)

pub check_all_signed-decls-init : goal.check_all_signed-decls-init
check_all_signed-decls-init t c = record { same = refl; checked = signed_nothing (known_of c.args.list.now.constructors.now) (declarations c.args.list.now.decls.now) c.args.list.now.decls.now c.args.inference.now.environment c.args.inference.now.solver (problem_below c.args.inference.now.solver c.well_formed-2.ensures) }

pub check_all_signed-check_signed-requires : goal.check_all_signed-check_signed-requires
check_all_signed-check_signed-requires t c =
    let l = solved_grows _ c.args.inference.now.solver c.decls.inference.solver c.decls.invariant.checked in
    let smaller = declaration_falls c.args.list.now.decls.now c.decls.j c.index-decls-j.result c.decls-test.true c.index-decls-j.is in
    (omega (arith, smaller), assumed_at c.args.inference.now.solver c.decls.inference.solver c.args.inference.now.environment c.decls.inference.environment c.decls.invariant.same l c.requires.assumed)

pub check_all_signed-returns-in_err-check_signed-clause-answers : goal.check_all_signed-returns-in_err-check_signed-clause-answers
check_all_signed-returns-in_err-check_signed-clause-answers t c =
    let known = known_of c.args.list.now.constructors.now in
    let all = declarations c.args.list.now.decls.now in
    let fault = c.in_err-check_signed.field-0.0 in
    refused_by (SignedAll known all c.args.list.now.decls.now c.args.inference.now.environment) c.args.inference.now.solver c.check_signed.new.inference.solver c.from_residual.result fault c.from_residual.ensures.1
    (signed_refused known all c.args.list.now.decls.now c.decls.j c.index-decls-j.result c.args.inference.now.environment c.args.inference.now.solver c.decls.inference.solver c.decls-test.true c.index-decls-j.is c.requires.assumed c.decls.invariant.checked fault
    (subst (λ es. Refuses (SignedAsks known all c.index-decls-j.result es) c.decls.inference.solver fault) c.decls.invariant.same (c.in_err-check_signed.ensures.answers all c.requires.signatures)))

pub check_all_signed-decls-preserved : goal.check_all_signed-decls-preserved
check_all_signed-decls-preserved t c =
    let known = known_of c.args.list.now.constructors.now in
    let all = declarations c.args.list.now.decls.now in
    record {
      same = c.in_ok-check_signed.ensures.same ∙ c.decls.invariant.same;
      checked = signed_step known all c.args.list.now.decls.now c.decls.j c.index-decls-j.result c.args.inference.now.environment c.args.inference.now.solver c.decls.inference.solver c.decls-test.true c.index-decls-j.is c.requires.assumed c.decls.invariant.checked c.check_signed.new.inference.solver
          (subst (λ es. SolvedBy (SignedAsks known all c.index-decls-j.result es) c.decls.inference.solver c.check_signed.new.inference.solver) c.decls.invariant.same (c.in_ok-check_signed.ensures.answers all c.requires.signatures));
    }

pub check_all_signed-returns-clause-answers : goal.check_all_signed-returns-clause-answers
check_all_signed-returns-clause-answers t c = signed_done (known_of c.args.list.now.constructors.now) (declarations c.args.list.now.decls.now) c.args.list.now.decls.now c.decls.j c.args.inference.now.environment c.args.inference.now.solver c.decls.inference.solver c.decls-test.false c.decls.invariant.checked

pub check_list-returns-in_err-check_all_signed-clause-listed : goal.check_list-returns-in_err-check_all_signed-clause-listed
check_list-returns-in_err-check_all_signed-clause-listed t c =
    let k = (known_of c.args.list.now.constructors.now) in
    let v = c.groups.invariant in
    let last : length c.args.list.now.found.now.groups.items ≤ c.groups.i = (let h = c.groups-test.false in omega (arith, h, c.len-i-end.ensures, c.args.list.now.found.now.groups.ok.0)) in
    listed_passed (Unit {0}) (list_of k c.args.list.now.decls.now) c.args.inference.now.solver c.args.inference.now.environment c.check_all_signed.new.inference.solver c.check_all_signed.new.inference.environment c.from_residual-in_err-check_all_signed.result c.in_err-check_all_signed.field-0.0 c.from_residual-in_err-check_all_signed.ensures.1
    (signed_end_refused k c.args.list.now.decls.now (lists c.args.list.now.found.now.groups.items) c.groups.i c.args.inference.now.solver c.groups.inference.solver c.args.inference.now.environment c.groups.inference.environment (subst (λ z. z ≤ c.groups.i) (sym (length-map c.args.list.now.found.now.groups.items (λ r. r.items))) last) c.requires.assumed v.stage c.in_err-check_all_signed.field-0.0 c.in_err-check_all_signed.ensures.answers)

pub check_alternative-returns-in_err-check_right_side-clause-kept : goal.check_alternative-returns-in_err-check_right_side-clause-kept
check_alternative-returns-in_err-check_right_side-clause-kept t c = extended c.args.inference.now.environment c.open_alternative.new.inference.environment c.check_right_side.new.inference.environment c.open_alternative.ensures.kept c.check_right_side.ensures.kept

pub check_clause-returns-in_err-check_right_side-clause-kept : goal.check_clause-returns-in_err-check_right_side-clause-kept
check_clause-returns-in_err-check_right_side-clause-kept t c = extended c.args.inference.now.environment c.open_function.new.inference.environment c.check_right_side.new.inference.environment c.open_function.ensures.kept c.check_right_side.ensures.kept

pub check_right_side-returns-in_err-check_bodies-clause-kept : goal.check_right_side-returns-in_err-check_bodies-clause-kept
check_right_side-returns-in_err-check_bodies-clause-kept t c = extended c.args.inference.now.environment c.check_bindings.new.inference.environment c.check_bodies.new.inference.environment c.check_bindings.ensures.kept c.check_bodies.ensures.kept

pub check_expression-returns-in_err-check_expression-in-Lambda-clause-kept : goal.check_expression-returns-in_err-check_expression-in-Lambda-clause-kept
check_expression-returns-in_err-check_expression-in-Lambda-clause-kept t c = extended c.args.inference.now.environment c.open_function.new.inference.environment c.check_expression-in-Lambda.new.inference.environment c.open_function.ensures.kept c.check_expression-in-Lambda.ensures.kept

pub check_expression-returns-in_err-check_expression-in-Let-clause-kept : goal.check_expression-returns-in_err-check_expression-in-Let-clause-kept
check_expression-returns-in_err-check_expression-in-Let-clause-kept t c = extended c.args.inference.now.environment c.check_bindings.new.inference.environment c.check_expression-in-Let.new.inference.environment c.check_bindings.ensures.kept c.check_expression-in-Let.ensures.kept

pub infer_group-returns-in_err-check_members-clause-kept : goal.infer_group-returns-in_err-check_members-clause-kept
infer_group-returns-in_err-check_members-clause-kept t c = extended c.args.inference.now.environment c.open_group.new.inference.environment c.check_members.new.inference.environment c.open_group.ensures.kept c.check_members.ensures.kept

pub check_list-returns-in_err-infer_group-clause-kept : goal.check_list-returns-in_err-infer_group-clause-kept
check_list-returns-in_err-infer_group-clause-kept t c = extended c.args.inference.now.environment c.groups.inference.environment c.infer_group.new.inference.environment c.groups.invariant.added c.infer_group.ensures.kept

pub check_list-returns-in_err-check_all_signed-clause-kept : goal.check_list-returns-in_err-check_all_signed-clause-kept
check_list-returns-in_err-check_all_signed-clause-kept t c = extended c.args.inference.now.environment c.groups.inference.environment c.check_all_signed.new.inference.environment c.groups.invariant.added c.check_all_signed.ensures.kept
