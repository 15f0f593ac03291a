use Rattle.serde_json.specs.View.{view}
use Rattle.hm_lsp_results.specs.Asked.{subject_of}
use Rattle.hm_lsp_results.proofs.CompletionValues.{completions_begun}
use Rattle.hm_lsp_results.proofs.completing.completions_in.Goals as goal

pub returns : goal.returns
returns c =
    completions_begun (subject_of c.args.asked.now) c.args.source c.args.text.now c.args.position c.position_of-first.result c.position_of-last.result c.name_start-start.result c.offset_of-offset.result c.in_ok-names.names.items c.as_slice.result.now
    (view c.in_ok-completions_value.field-0) c.offset_of-offset.ensures.place c.name_start-start.ensures c.position_of-first.ensures.place c.position_of-last.ensures.place c.in_ok-names.ensures c.as_slice.ensures.value c.in_ok-completions_value.ensures
