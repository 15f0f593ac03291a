use Rattle.std.proofs.Common.{◌∙◌}
use Rattle.hm_types.specs.Shape.{type_of}
use Rattle.hm_infer_context.proofs.Inferred.{constructor_inferred}
use Rattle.hm_infer_context.proofs.Opened.{declared_given}
use Rattle.hm_infer_context.proofs.instances.constructor_instance.Goals as goal

pub scheme_instance-requires : goal.scheme_instance-requires
scheme_instance-requires c = record { scheme = declared_given c.args.solver.now _ _ _ c.body.ensures.valid c.vars.ensures c.body.ensures.value }

pub returns-clause-inferred : goal.returns-clause-inferred
returns-clause-inferred c = constructor_inferred type_of c.args.solver.now c.scheme_instance.new.solver _ _ _ _ c.scheme_instance.result (c.as_scheme-scheme.ensures ∙ c.in_ok-scheme.ensures) c.body.ensures.valid c.vars.ensures c.body.ensures.value c.scheme_instance.ensures.inferred
