use Rattle.std.proofs.Common.{◌-◌, ◌∙◌, refl, sym, subst, arith}
use Rattle.hm_types.specs.Shape.{type_of}
use Rattle.hm_unify.specs.WellFormed.{IsWellFormed}
use Rattle.hm_infer_expressions.specs.GroupQuestions.{HaveNodeTypes}
use Rattle.hm_infer_context.proofs.States.{problem_below}
use Rattle.hm_infer_expressions.proofs.Derived.{refused_by}
use Rattle.hm_infer_expressions.proofs.NodeTypes.{rows_none, rows_more, rows_refused, rows_all, item_given}
use Rattle.hm_infer_expressions.proofs.bindings.equate_types.Goals as goal

pub items-init : goal.items-init
items-init c = record { given = refl; solved = rows_none c.args.types.now c.args.own c.args.items.now c.args.solver.now (problem_below c.args.solver.now c.well_formed-2.ensures) }

pub equate-requires-clause-left : goal.equate-requires-clause-left
equate-requires-clause-left c = subst (λ g. IsWellFormed g (type_of c.index-items-i.result.ty)) (sym c.items.invariant.given) (item_given c.args.solver.now.given c.args.items.now c.items.i c.index-items-i.result c.requires.items c.items-test.true c.index-items-i.is)

pub equate-requires-clause-right : goal.equate-requires-clause-right
equate-requires-clause-right c = (let h = c.requires.given (c.args.own - 1 - c.items.i) (omega (arith, c.requires.own)) in omega (arith, h, c.items.invariant.given))

pub items-preserved : goal.items-preserved
items-preserved c = record {
  given = c.in_ok-equate.ensures.given ∙ c.items.invariant.given;
  solved = rows_more c.args.types.now c.args.own _ c.args.items.now c.items.i c.index-items-i.result c.args.solver.now c.items.solver c.equate.new.solver c.items.invariant.given c.requires.items c.requires.given (omega (arith, c.requires.own)) refl c.items-test.true c.index-items-i.is c.items.invariant.solved c.in_ok-equate.ensures.answers;
}

pub returns-in_err-equate-clause-answers : goal.returns-in_err-equate-clause-answers
returns-in_err-equate-clause-answers c =
    refused_by (HaveNodeTypes c.args.types.now c.args.own c.args.items.now) c.args.solver.now c.equate.new.solver c.from_residual.result c.in_err-equate.field-0.0 c.from_residual.ensures.1
    (rows_refused c.args.types.now c.args.own _ c.args.items.now c.items.i c.index-items-i.result c.args.solver.now c.items.solver c.in_err-equate.field-0.0 c.items.invariant.given c.requires.items c.requires.given (omega (arith, c.requires.own)) refl c.items-test.true c.index-items-i.is c.items.invariant.solved c.in_err-equate.ensures.answers)

pub returns-clause-answers : goal.returns-clause-answers
returns-clause-answers c = rows_all c.args.types.now c.args.own c.args.items.now c.items.i c.args.solver.now c.items.solver c.items-test.false c.items.invariant.solved
