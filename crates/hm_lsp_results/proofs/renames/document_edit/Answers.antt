use Rattle.std.proofs.Common.{◌∙◌, ap, map, string_bytes, sym}
use Rattle.serde_json.specs.View.{view}
use Rattle.hm_lsp_sources.specs.declared.source.Source.{Source}
use Rattle.hm_service_sources.specs.declared.held.HeldSource.{HeldSource}
use Rattle.hm_lsp_results.specs.Asked.{subject_of}
use Rattle.hm_lsp_results.proofs.RenameEdits.{document_one}
use Rattle.hm_lsp_results.proofs.renames.document_edit.Goals as goal

pub returns : goal.returns
returns c =
    document_one (subject_of c.args.asked.now) c.args.name.now c.args.source c.args.references.now c.index-asked-source.result c.index-asked-source-2.result c.as_str-uri.result.now c.as_slice-text.result.now (map view c.in_ok-edits.edits.items)
    c.document_edit_value.result c.requires.sources c.requires.held c.index-asked-source.is c.index-asked-source-2.is (c.as_str-uri.ensures.value ∙ ap (λ (x : Source). string_bytes x.uri) (sym c.index-asked-source.is))
    (c.as_slice-text.ensures.value ∙ ap (λ (x : HeldSource). x.text.items) (sym c.index-asked-source-2.is)) c.in_ok-edits.ensures c.document_edit_value.ensures
