use Rattle.std.proofs.Common.{subst, sym, ap, ◌∙◌}
use Rattle.hm_names_keys.specs.Keys.{variable_of_key}
use Rattle.hm_names_keys.specs.Variables.{identifier}
use Rattle.hm_types.specs.Shape.{type_of}
use Rattle.hm_unify.specs.WellFormed.{IsWellFormed}
use Rattle.hm_names.specs.Syntax.{name_of}
use Rattle.hm_infer_context.proofs.Outcomes.{SolvedBy}
use Rattle.hm_infer_context.proofs.States.{Makes}
use Rattle.hm_infer_context.proofs.Matching.{type_given, new_answers, again_answers, again_refused, match_passed, IsOf}
use Rattle.hm_infer_context.proofs.patterns.add_variable.Goals as goal

pub equate-requires-clause-right : goal.equate-requires-clause-right
equate-requires-clause-right c =
    subst (IsWellFormed c.args.solver.now.given) (sym c.in_ok-own-in-Some.ensures) (type_given c.args.solver.now.given (name_of c.args.name.now) (type_of c.in-Some.u.now) c.args.variables.now c.requires.variables c.in-Some.ensures)

pub returns-in_err-equate-in-Some : goal.returns-in_err-equate-in-Some
returns-in_err-equate-in-Some c =
    match_passed (IsOf (type_of c.args.t.now) (name_of c.args.name.now)) _ c.args.solver.now c.args.variables.now c.equate.new.solver c.args.variables.now c.from_residual-in_err-equate-in-Some.result c.in_err-equate-in-Some.field-0.0 c.from_residual-in_err-equate-in-Some.ensures.1
    (again_refused c.args.solver.now c.args.variables.now (name_of c.args.name.now) (type_of c.args.t.now) (type_of c.in-Some.u.now) (type_of c.in_ok-own-in-Some.own) c.in_err-equate-in-Some.field-0.0 c.in_ok-own-in-Some.ensures c.in-Some.ensures c.in_err-equate-in-Some.ensures.answers)

pub returns-in_ok-add-in-None : goal.returns-in_ok-add-in-None
returns-in_ok-add-in-None c =
    new_answers {X = Unit {0}} c.args.solver.now c.args.variables.now c.add.new.self (name_of c.args.name.now) (identifier (variable_of_key c.key_of.result)) (type_of c.args.t.now) (type_of c.in_ok-own-in-None.own) tt c.in_ok-add-in-None.ensures (ap identifier c.key_of.ensures) c.in_ok-own-in-None.ensures
    c.well_formed-2.ensures c.in-None.ensures c.requires.given c.requires.variables

pub returns-in_ok-add-in-Some : goal.returns-in_ok-add-in-Some
returns-in_ok-add-in-Some c =
    again_answers {X = Unit {0}} {Y = Unit {0}} c.args.solver.now c.equate.new.solver c.args.variables.now c.add-in-Some.new.self (name_of c.args.name.now) (identifier (variable_of_key c.key_of-in-Some.result)) (type_of c.args.t.now) (type_of c.in-Some.u.now) (type_of c.in_ok-known-in-Some.known) tt tt c.in_ok-add-in-Some.ensures (ap identifier c.key_of-in-Some.ensures)
    c.in_ok-known-in-Some.ensures c.in_ok-equate-in-Some.ensures.given c.in-Some.ensures c.requires.variables
    (subst (λ z. SolvedBy (Makes (type_of c.args.t.now) z) c.args.solver.now c.equate.new.solver) (c.in_ok-own-in-Some.ensures ∙ sym c.in_ok-known-in-Some.ensures) c.in_ok-equate-in-Some.ensures.answers)
