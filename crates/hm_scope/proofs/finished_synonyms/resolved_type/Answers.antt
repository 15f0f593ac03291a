use Rattle.std.proofs.Common.{◌∙◌, ap}
use Rattle.std.proofs.lemmas.Result.{IfOk-weaker}
use Rattle.hm_names.specs.Found.{Walking, resolver_of}
use Rattle.hm_names.specs.Resolved.{type_with}
use Rattle.hm_scope.proofs.finished_synonyms.resolved_type.Goals as goal

pub returns : goal.returns
returns c = IfOk-weaker c.type_expr.result _ _ (λ t is. is ∙ ap (λ (w : Walking). type_with (resolver_of w.known) c.args.ty.now) c.new-resolving.ensures) c.type_expr.ensures.tree
