use Rattle.hm_types.specs.Shape.{type_of}
use Rattle.hm_names.specs.Syntax.{name_of}
use Rattle.hm_infer_context.proofs.FoundNames.{found_given, has_named}
use Rattle.hm_infer_context.proofs.Inferred.{name_inferred}
use Rattle.hm_infer_context.proofs.names.name_instance.Goals as goal

pub scheme_instance-requires : goal.scheme_instance-requires
scheme_instance-requires c = record { scheme = found_given c.args.solver.now.given (name_of c.args.name.now) _ c.args.environment.now c.requires.assumed c.in-Some.ensures }

pub returns-in-None-clause-refused : goal.returns-in-None-clause-refused
returns-in-None-clause-refused c = λ r u p. c.in-None.ensures (has_named (name_of c.args.name.now) c.args.environment.now r p.0 p.1)

pub returns-in-Some-clause-inferred : goal.returns-in-Some-clause-inferred
returns-in-Some-clause-inferred c = name_inferred type_of c.args.solver.now c.scheme_instance.new.solver c.args.environment.now (name_of c.args.name.now) _ _ c.scheme_instance.result c.in-Some.ensures c.scheme_instance.ensures.inferred
