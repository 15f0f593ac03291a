use Rattle.serde_json.specs.View.{view}
use Rattle.hm_lsp_results.specs.Asked.{subject_of}
use Rattle.hm_lsp_results.proofs.CompletionValues.{completions_held}
use Rattle.hm_lsp_results.proofs.completing.completions.Goals as goal

pub returns : goal.returns
returns c =
    completions_held (subject_of c.args.asked.now) c.args.source c.args.position c.in-Some.held.now c.as_slice-text.result.now (view c.in_ok-completions_in.field-0) c.in-Some.ensures.lookup.3.0 c.in-Some.ensures.lookup.1
    c.as_slice-text.ensures.value c.in_ok-completions_in.ensures
