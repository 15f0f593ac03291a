use Rattle.std.proofs.Common.{◌∙◌, ap, ap₂, sym, subst}
use Rattle.hm_types.specs.Shape.{type_of}
use Rattle.hm_typing.specs.Assumptions.{bind}
use Rattle.hm_infer_context.specs.Environments.{AreAssumed, assumptions}
use Rattle.hm_infer_context.proofs.ClosedSchemes.{entry_scheme, entry_given}
use Rattle.hm_infer.proofs.assuming.assume_value.Goals as goal

pub returns-clause-assumed : goal.returns-clause-assumed
returns-clause-assumed c =
    ap assumptions c.in_ok-bind_lent.ensures.bound
    ∙ ap₂ (λ x s. bind x s (assumptions c.args.environment.now)) c.entity_name-name.ensures (entry_scheme c.args.entry.now.scheme c.vars.result (type_of c.body.result.now) c.body.ensures.valid c.vars.ensures c.body.ensures.value)

pub returns-clause-closed : goal.returns-clause-closed
returns-clause-closed c = λ a. subst (AreAssumed 0) (sym c.in_ok-bind_lent.ensures.bound) (entry_given c.args.entry.now.scheme c.vars.result (type_of c.body.result.now) c.body.ensures.valid c.vars.ensures c.body.ensures.value, a)
