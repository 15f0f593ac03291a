use Rattle.std.proofs.Common.{◌≡◌, take, true}
use Rattle.std.specs.List.{list_all}
use Rattle.hm_lsp_session.specs.Documents.{is_other}
use Rattle.hm_lsp_session.proofs.documents.Documents.find.Given as goal

abbrev pub invariant-documents : goal.invariant-documents
invariant-documents l = list_all (is_other l.uri) (take l.index l.self.items.items) ≡ true
