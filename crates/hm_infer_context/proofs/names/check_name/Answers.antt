use Rattle.hm_types.specs.Shape.{type_of}
use Rattle.hm_names.specs.Syntax.{name_of}
use Rattle.hm_infer_context.proofs.FoundNames.{found_given, name_answers, name_refused}
use Rattle.hm_infer_context.proofs.names.check_name.Goals as goal

pub check_scheme-requires-clause-scheme : goal.check_scheme-requires-clause-scheme
check_scheme-requires-clause-scheme c = found_given c.args.solver.now.given (name_of c.args.name.now) _ c.args.environment.now c.requires.assumed c.in-Some.ensures

pub returns-in-None : goal.returns-in-None
returns-in-None c = name_refused c.args.solver.now c.args.environment.now (name_of c.args.name.now) (type_of c.args.t.now) c.in-None.ensures

pub returns-in-Some : goal.returns-in-Some
returns-in-Some c = name_answers c.args.solver.now c.check_scheme.new.solver c.args.environment.now (name_of c.args.name.now) _ _ (type_of c.args.t.now) c.check_scheme.result c.in-Some.ensures c.check_scheme.ensures
