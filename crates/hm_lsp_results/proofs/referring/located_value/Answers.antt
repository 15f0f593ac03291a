use Rattle.std.proofs.Common.{◌∙◌, ap, get_or, string_bytes, sym}
use Rattle.hm_lsp_sources.specs.declared.source.Source.{Source}
use Rattle.hm_lsp_results.specs.Asked.{subject_of}
use Rattle.hm_lsp_results.proofs.Referred.{located_one}
use Rattle.hm_lsp_results.proofs.Walked.{set_again, walk_at}
use Rattle.hm_lsp_results.proofs.referring.located_value.Goals as goal

pub returns-clause-walks : goal.returns-clause-walks
returns-clause-walks c =
    set_again c.args.cursors.now.items c.args.reference.now.source c.index_mut-cursor.result.now c.reference_value.new.cursor c.index_mut-cursor.ensures.value c.reference_value.ensures.same

pub returns-clause-value : goal.returns-clause-value
returns-clause-value c =
    let asked = subject_of c.args.asked.now in
    let n = c.args.reference.now.source in
    let w = c.index_mut-cursor.result.now in
    let walk = walk_at asked n w c.requires.held (c.index_mut-cursor.ensures.value ∙ ap (λ l. get_or l n w) c.requires.walks) in
    located_one asked c.args.reference.now c.index-asked-reference.result w c.as_str.result.now c.reference_value.result c.requires.sources c.index-asked-reference.is walk
    (c.as_str.ensures.value ∙ ap (λ (x : Source). string_bytes x.uri) (sym c.index-asked-reference.is)) c.reference_value.ensures.value
