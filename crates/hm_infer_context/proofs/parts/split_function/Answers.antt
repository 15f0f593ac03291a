use Rattle.std.proofs.Common.{ap}
use Rattle.hm_types.specs.Shape.{type_of}
use Rattle.hm_infer_context.proofs.Inferred.{parts_given, parts_taken, taken_apart}
use Rattle.hm_infer_context.proofs.States.{problem_below}
use Rattle.hm_infer_context.proofs.parts.split_function.Goals as goal

pub returns-clause-parts : goal.returns-clause-parts
returns-clause-parts c =
    let function = c.is_function.ensures c.if-not-is_function.false in
    let is = taken_apart c.args.solver.now.given (type_of c.args.t) c.in-App._head c.in-App.arguments c.into_vec-row.result.items c.pop.new.self.items c.pop-2.new.self.items c.in-Some-pop.argument c.in-Some.outcome c.requires.given function (ap type_of c.in-App.is) c.into_vec-row.ensures c.in-Some.ensures.items c.in-Some-pop.ensures.items in
    parts_taken c.args.solver.now (type_of c.args.t) (type_of c.in-Some-pop.argument) (type_of c.in-Some.outcome) (problem_below c.args.solver.now c.well_formed-2.ensures) is

pub returns-clause-given : goal.returns-clause-given
returns-clause-given c =
    let function = c.is_function.ensures c.if-not-is_function.false in
    let is = taken_apart c.args.solver.now.given (type_of c.args.t) c.in-App._head c.in-App.arguments c.into_vec-row.result.items c.pop.new.self.items c.pop-2.new.self.items c.in-Some-pop.argument c.in-Some.outcome c.requires.given function (ap type_of c.in-App.is) c.into_vec-row.ensures c.in-Some.ensures.items c.in-Some-pop.ensures.items in
    parts_given c.args.solver.now.given (type_of c.args.t) (type_of c.in-Some-pop.argument) (type_of c.in-Some.outcome) c.requires.given is
