use Rattle.std.proofs.Common.{◌≡◌, IfOk, subst}
use Rattle.serde_json.specs.View.{view}
use Rattle.hm_build_objects.specs.Objects.{list_data}
use Rattle.hm_build_objects.proofs.Declaring.{constrs_listed}
use Rattle.hm_build_objects.proofs.declared.constrs_value.Goals as goal

pub returns : goal.returns
returns c = subst (λ l. IfOk c.array_of.result (λ value. view value ≡ list_data l)) (constrs_listed c.args.constrs.now) c.array_of.ensures
