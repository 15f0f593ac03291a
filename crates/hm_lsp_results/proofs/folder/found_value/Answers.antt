use Rattle.std.proofs.Common.{◌≡◌, ◌∙◌, ◌<◌, ap, get_or, length, string_bytes, subst, sym}
use Rattle.hm_lsp_sources.specs.declared.source.Source.{Source}
use Rattle.hm_lsp_results.specs.Asked.{subject_of}
use Rattle.hm_lsp_results.proofs.FolderSymbols.{found_one}
use Rattle.hm_lsp_results.proofs.Walked.{set_again, walk_at}
use Rattle.hm_lsp_results.proofs.folder.found_value.Goals as goal

pub returns-clause-walks : goal.returns-clause-walks
returns-clause-walks c =
    set_again c.args.cursors.now.items c.source-number.result c.index_mut-cursor.result.now c.located_symbol_value.new.cursor c.index_mut-cursor.ensures.value c.located_symbol_value.ensures.same

pub returns-clause-value : goal.returns-clause-value
returns-clause-value c =
    let asked = subject_of c.args.asked.now in
    let n = c.source-number.result in
    let w = c.index_mut-cursor.result.now in
    let low = subst (λ k. k < length c.args.asked.now.held.now) (sym c.source-number.ensures) c.requires.held in
    let walk = walk_at asked n w low (c.index_mut-cursor.ensures.value ∙ ap (λ l. get_or l n w) c.requires.walks) in
    found_one asked c.args.one.now n c.index-asked-number.result w c.as_str.result.now c.symbol.result.now c.located_symbol_value.result c.source-number.ensures c.requires.sources c.index-asked-number.is walk
    (c.as_str.ensures.value ∙ ap (λ (x : Source). string_bytes x.uri) (sym c.index-asked-number.is)) c.symbol.ensures c.located_symbol_value.ensures.value
