use Rattle.std.proofs.Common.{Some, subst, sym}
use Rattle.serde_json.specs.View.{view}
use Rattle.hm_lsp_results.specs.Asked.{subject_of}
use Rattle.hm_lsp_results.specs.Prepared.{IsPrepareValue}
use Rattle.hm_lsp_results.specs.Results.{HasPosition, IsResultFor}
use Rattle.hm_lsp_results.proofs.Refusals.{not_renamable_in}
use Rattle.hm_lsp_results.proofs.replying.prepare_result.Goals as goal

pub returns-in-Ok-clause-result : goal.returns-in-Ok-clause-result
returns-in-Ok-clause-result g c =
    let made = Some (view c.in-Ok.value) in
    (c.position_of_request.result, (c.position_of_request.ensures, subst (λ o. IsResultFor (IsPrepareValue (subject_of c.args.asked.now) c.args.source) o made) (sym c.in-Some.is) c.in-Ok.ensures.value))

pub returns-in-Err-clause-refused : goal.returns-in-Err-clause-refused
returns-in-Err-clause-refused g c =
    not_renamable_in (subject_of c.args.asked.now) c.args.source (view c.args.request.now) c.in-Some.position c.in-Err.fault (subst (HasPosition (view c.args.request.now)) c.in-Some.is c.position_of_request.ensures) c.in-Err.ensures.refused
