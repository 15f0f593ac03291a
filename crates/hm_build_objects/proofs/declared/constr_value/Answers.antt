use Rattle.std.proofs.Common.{◌≡◌, IfOk, subst}
use Rattle.serde_json.specs.View.{view}
use Rattle.hm_build_objects.proofs.Declaring.{arguments_counted}
use Rattle.hm_build_objects.proofs.declared.constr_value.Goals as goal

pub returns : goal.returns
returns c = subst (λ d. IfOk c.arguments_value.result (λ value. view value ≡ d)) (arguments_counted c.args.name.now c.args.args.now) c.arguments_value.ensures
