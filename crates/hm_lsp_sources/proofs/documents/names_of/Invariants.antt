use Rattle.std.proofs.Common.{◌≡◌, map, take, string_bytes}
use Rattle.percent_encoding.specs.Percent.{percent_decode}
use Rattle.hm_lsp_sources.proofs.documents.names_of.Given as goal

abbrev pub invariant-documents : goal.invariant-documents
invariant-documents l = map (λ n. n.items) l.names.items ≡ map (λ d. percent_decode (string_bytes d.uri)) (take l.document-index l.documents)
