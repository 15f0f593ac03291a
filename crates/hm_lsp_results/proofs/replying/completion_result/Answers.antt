use Rattle.std.proofs.Common.{Some, subst, sym}
use Rattle.serde_json.specs.View.{view}
use Rattle.hm_lsp_results.specs.Asked.{subject_of}
use Rattle.hm_lsp_results.specs.Completions.{IsCompletionsResult}
use Rattle.hm_lsp_results.specs.Results.{IsResultFor}
use Rattle.hm_lsp_results.proofs.replying.completion_result.Goals as goal

pub returns : goal.returns
returns c =
    let made = Some (view c.in_ok-completions.field-0) in
    (c.position_of_request.result, (c.position_of_request.ensures, subst (λ o. IsResultFor (IsCompletionsResult (subject_of c.args.asked.now) c.args.source) o made) (sym c.in-Some.is) c.in_ok-completions.ensures))
