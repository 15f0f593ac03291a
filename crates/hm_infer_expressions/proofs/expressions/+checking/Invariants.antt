use Rattle.std.proofs.Common.{◌≡◌, ◌+◌, ◌*◌, ◌≤◌, length, take}
use Rattle.hm_graph_components.specs.Digraph.{lists}
use Rattle.hm_typing.specs.Names.{Identifier}
use Rattle.hm_typing.specs.Schemes.{Monotype}
use Rattle.hm_infer_context.specs.Environments.{assumptions}
use Rattle.hm_infer_expressions.specs.GroupQuestions.{HaveTypesOfAll, MembersHave}
use Rattle.hm_infer_expressions.proofs.ListSteps.{GroupsInferred}
use Rattle.hm_syntax.specs.Sizes.{expression_size, expressions_size, bodies_size, right_side_size, alternatives_size, declaration_size, declarations_size}
use Rattle.hm_syntax.specs.Lists.{expressions, body, bodies, alternatives, declarations}
use Rattle.hm_syntax.specs.Trees.{no_bodies}
use Rattle.hm_types.specs.Shape.{type_of}
use Rattle.hm_infer_context.specs.Constructors.{known_of}
use Rattle.hm_infer_context.specs.PartTypes.{is_one, first_of}
use Rattle.hm_infer_context.proofs.Outcomes.{SolvedBy}
use Rattle.hm_infer_expressions.proofs.Derived.{ChecksAll}
use Rattle.hm_infer_expressions.proofs.SignedSteps.{SignedAll}
use Rattle.hm_infer_expressions.proofs.Sides.{ChecksBodies, ChecksChoices}
use Rattle.hm_infer_expressions.proofs.expressions.+checking.Given as goal

abbrev pub decreases-check_expression : goal.decreases-check_expression
decreases-check_expression l = 8 * expression_size l.e.now

abbrev pub decreases-check_application : goal.decreases-check_application
decreases-check_application l = 8 * expression_size l.function.now + (8 * expression_size l.argument.now + 3)

abbrev pub decreases-infer_application : goal.decreases-infer_application
decreases-infer_application l = 8 * expression_size l.function.now + (8 * expression_size l.argument.now + 3)

abbrev pub decreases-infer_function : goal.decreases-infer_function
decreases-infer_function l = 8 * expression_size l.e.now + 2

abbrev pub decreases-infer_other : goal.decreases-infer_other
decreases-infer_other l = 8 * expression_size l.e.now + 1

abbrev pub decreases-check_typed : goal.decreases-check_typed
decreases-check_typed l = 8 * expression_size l.inner.now + 1

abbrev pub decreases-check_expressions : goal.decreases-check_expressions
decreases-check_expressions l = 8 * expressions_size (expressions l.parts.now)

abbrev pub invariant-check_expressions-parts : goal.invariant-check_expressions-parts
invariant-check_expressions-parts l = record {
  same : l.inference.environment ≡ l.initial.inference.environment;
  checked : SolvedBy (ChecksAll (known_of l.constructors) (take l.j l.parts) (is_one l.types) (first_of l.types) l.initial.inference.environment) l.initial.inference.solver l.inference.solver;
}

abbrev pub decreases-check_body : goal.decreases-check_body
decreases-check_body l = 8 * bodies_size (body l.guard.now l.e.now no_bodies)

abbrev pub decreases-check_bodies : goal.decreases-check_bodies
decreases-check_bodies l = 8 * bodies_size (bodies l.parts.now) + 1

abbrev pub decreases-check_right_side : goal.decreases-check_right_side
decreases-check_right_side l = 8 * right_side_size l.rhs.now + 1

abbrev pub decreases-check_alternative : goal.decreases-check_alternative
decreases-check_alternative l = 8 * right_side_size l.rhs.now + 2

abbrev pub decreases-check_alternatives : goal.decreases-check_alternatives
decreases-check_alternatives l = 8 * alternatives_size (alternatives l.choices.now) + 1

abbrev pub invariant-check_bodies-parts : goal.invariant-check_bodies-parts
invariant-check_bodies-parts l = record {
  same : l.inference.environment ≡ l.initial.inference.environment;
  checked : SolvedBy (ChecksBodies (known_of l.constructors) (take l.j l.parts) (type_of l.t) l.initial.inference.environment) l.initial.inference.solver l.inference.solver;
}

abbrev pub invariant-check_alternatives-choices : goal.invariant-check_alternatives-choices
invariant-check_alternatives-choices l = record {
  same : l.inference.environment ≡ l.initial.inference.environment;
  checked : SolvedBy (ChecksChoices (known_of l.constructors) (take l.j l.choices) l.types.inner (type_of l.types.outcome.now) l.initial.inference.environment) l.initial.inference.solver l.inference.solver;
}

abbrev pub decreases-check_clause : goal.decreases-check_clause
decreases-check_clause l = 8 * right_side_size l.rhs.now + 2

abbrev pub decreases-check_member : goal.decreases-check_member
decreases-check_member l = 8 * declaration_size l.decl.now

abbrev pub decreases-check_members : goal.decreases-check_members
decreases-check_members l = 8 * declarations_size (declarations l.decls.now) + 1

abbrev pub decreases-infer_group : goal.decreases-infer_group
decreases-infer_group l = 8 * declarations_size (declarations l.list.now.decls.now) + 2

abbrev pub decreases-check_bindings : goal.decreases-check_bindings
decreases-check_bindings l = 8 * declarations_size (declarations l.list.now) + 4

abbrev pub decreases-check_list : goal.decreases-check_list
decreases-check_list l = 8 * declarations_size (declarations l.list.now.decls.now) + 3

abbrev pub invariant-check_members-members : goal.invariant-check_members-members
invariant-check_members-members l = record {
  same : l.inference.environment ≡ l.initial.inference.environment;
  grows : l.initial.inference.solver.given ≤ l.inference.solver.given;
  checked : (τ : Identifier → Monotype) → HaveTypesOfAll (known_of l.constructors) l.decls τ l.types l.members → SolvedBy (MembersHave (known_of l.constructors) l.decls l.types τ (take l.j l.members) (assumptions l.initial.inference.environment)) l.initial.inference.solver l.inference.solver;
}

abbrev pub invariant-check_list-groups : goal.invariant-check_list-groups
invariant-check_list-groups l = GroupsInferred (known_of l.list.constructors.now) l.list.decls.now (lists l.list.found.now.groups.items) (length l.list.found.now.numbers) l.types.items l.i l.fn.inference.solver l.fn.inference.environment l.inference.solver l.inference.environment

abbrev pub decreases-check_signed : goal.decreases-check_signed
decreases-check_signed l = 8 * declaration_size l.decl.now

abbrev pub decreases-check_all_signed : goal.decreases-check_all_signed
decreases-check_all_signed l = 8 * declarations_size (declarations l.list.now.decls.now) + 1

abbrev pub invariant-check_all_signed-decls : goal.invariant-check_all_signed-decls
invariant-check_all_signed-decls l = record {
  same : l.inference.environment ≡ l.initial.inference.environment;
  checked : SolvedBy (SignedAll (known_of l.list.constructors.now) (declarations l.list.decls.now) (take l.j l.list.decls.now) l.initial.inference.environment) l.initial.inference.solver l.inference.solver;
}
