use Rattle.std.proofs.Common.{subst, sym}
use Rattle.serde_json.specs.View.{view}
use Rattle.serde_json.specs.declared.value.Value.TheVariants.{Null}
use Rattle.hm_lsp_results.specs.Asked.{IsFoundAt}
use Rattle.hm_lsp_results.specs.Results.{IsBoundValue, bound, not_bound}
use Rattle.hm_lsp_results.proofs.Requests.{null_is}
use Rattle.hm_lsp_results.proofs.asking.definition.Goals as goal

pub returns-in-None : goal.returns-in-None
returns-in-None g c =
    not_bound (subst (IsFoundAt c.args.asked.now.encoding c.args.asked.now.held.now c.args.asked.now.checked.now c.args.source c.args.position) c.in-None.is c.in_ok-name_at.ensures) null_is

pub returns-in-None-bound : goal.returns-in-None-bound
returns-in-None-bound g c =
    bound (subst (IsFoundAt c.args.asked.now.encoding c.args.asked.now.held.now c.args.asked.now.checked.now c.args.source c.args.position) c.in-Some.is c.in_ok-name_at.ensures)
    (subst (λ b. IsBoundValue c.args.asked.now.encoding c.args.asked.now.sources.now c.args.asked.now.held.now b (view Null)) (sym c.in-None-bound.is) null_is)

pub returns : goal.returns
returns g c =
    bound (subst (IsFoundAt c.args.asked.now.encoding c.args.asked.now.held.now c.args.asked.now.checked.now c.args.source c.args.position) c.in-Some.is c.in_ok-name_at.ensures)
    (subst (λ b. IsBoundValue c.args.asked.now.encoding c.args.asked.now.sources.now c.args.asked.now.held.now b (view c.in_ok-bound_value-in-Some-bound.field-0)) (sym c.in-Some-bound.is) c.in_ok-bound_value-in-Some-bound.ensures)
