use Rattle.std.proofs.Common.{rules, ◌∙◌, option_map, inl, inr}
use Rattle.hm_lsp_sources.proofs.Opened.{found_more, name_at}
use Rattle.hm_lsp_sources.proofs.documents.last_open.Goals as goal
use Rattle.hm_lsp_sources.proofs.documents.last_open.Goals.{then-is_open_as, else-is_open_as}

pub is_open_as-requires : goal.is_open_as-requires
is_open_as-requires c =
    c.as_slice.ensures.value ∙ name_at c.args.names.now c.args.documents.now c.documents.index c.index-names-index.result c.index-documents-index.result c.requires c.documents-test.true c.index-names-index.is c.index-documents-index.is

pub documents-preserved : goal.documents-preserved
documents-preserved c =
    let d = c.index-documents-index.result in
    let more = found_more c.args.documents.now c.documents.index d c.args.name.now (option_map (λ d. d.now) c.documents.found) (option_map (λ d. d.now) c.if-is_open_as.found) c.documents-test.true c.index-documents-index.is c.documents.invariant in
    elim c.if-is_open_as.branch [
      | then-is_open_as w ↦ more (inl (search rules))
      | else-is_open_as w ↦ more (inr (search rules))
    ]
