use Rattle.std.proofs.Common.{Err, ap}
use Rattle.hm_infer_dependencies.proofs.Distinct.{passed_on}
use Rattle.hm_infer_binding_groups.proofs.groups.binding_groups.Goals as goal

pub returns-clause-groups : goal.returns-clause-groups
returns-clause-groups c = λ k. c.in_ok-groups.ensures k

pub returns-in_err-list-clause-repeated : goal.returns-in_err-list-clause-repeated
returns-in_err-list-clause-repeated c = passed_on c.from_residual-in_err-list.result c.in_err-list.field-0.0 c.from_residual-in_err-list.ensures.1 (λ e. c.in_err-list.ensures.repeated (ap Err e))
