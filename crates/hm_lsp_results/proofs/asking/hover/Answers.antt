use Rattle.std.proofs.Common.{subst}
use Rattle.serde_json.specs.View.{view}
use Rattle.hm_lsp_values.specs.Names.{IsHover}
use Rattle.hm_lsp_results.specs.Asked.{IsFoundAt}
use Rattle.hm_lsp_results.specs.Results.{not_shown, shown}
use Rattle.hm_lsp_results.proofs.Requests.{null_is}
use Rattle.hm_lsp_results.proofs.asking.hover.Goals as goal

pub returns-in_ok-hover_value-in-Some : goal.returns-in_ok-hover_value-in-Some
returns-in_ok-hover_value-in-Some g c =
    shown (subst (IsFoundAt c.args.asked.now.encoding c.args.asked.now.held.now c.args.asked.now.checked.now c.args.source c.args.position) c.in-Some.is c.in_ok-found.ensures)
    (subst (λ t. IsHover t (view c.in_ok-hover_value-in-Some.field-0)) c.as_str.ensures.value c.in_ok-hover_value-in-Some.ensures)

pub returns-in-None : goal.returns-in-None
returns-in-None g c =
    not_shown (subst (IsFoundAt c.args.asked.now.encoding c.args.asked.now.held.now c.args.asked.now.checked.now c.args.source c.args.position) c.in-None.is c.in_ok-found.ensures) null_is
