use Rattle.std.proofs.Common.{Some, codes, subst, sym}
use Rattle.serde_json.specs.View.{view}
use Rattle.hm_lsp_session.specs.Params.{string_at}
use Rattle.hm_lsp_results.specs.Asked.{subject_of}
use Rattle.hm_lsp_results.specs.Renames.{IsRenameValue}
use Rattle.hm_lsp_results.specs.Results.{HasPosition, IsResultAtPosition, IsResultFor}
use Rattle.hm_lsp_results.proofs.Refusals.{refused_in}
use Rattle.hm_lsp_results.proofs.RenameEdits.{named_as}
use Rattle.hm_lsp_results.proofs.replying.rename_result.Goals as goal

pub returns-in-Ok-clause-result : goal.returns-in-Ok-clause-result
returns-in-Ok-clause-result g c =
    let asked = subject_of c.args.asked.now in
    let request = view c.args.request.now in
    let made = Some (view c.in-Ok.value) in
    named_as (λ new. IsResultAtPosition (IsRenameValue asked c.args.source new) request) (string_at (codes "/params/newName") request) c.in-Some.name.now made (sym c.in-Some.ensures)
    (c.position_of_request.result, (c.position_of_request.ensures, subst (λ o. IsResultFor (IsRenameValue asked c.args.source c.in-Some.name.now) o made) (sym c.in-Some-position_of_request.is) c.in-Ok.ensures.value))

pub returns-in-Err-clause-refused : goal.returns-in-Err-clause-refused
returns-in-Err-clause-refused g c =
    let request = view c.args.request.now in
    refused_in (subject_of c.args.asked.now) c.args.source request c.in-Some.name.now c.in-Some-position_of_request.position c.in-Err.fault (sym c.in-Some.ensures)
    (subst (λ o. HasPosition request o) c.in-Some-position_of_request.is c.position_of_request.ensures) c.in-Err.ensures.refused
