use Rattle.std.proofs.Common.{◌≡◌, option_map, take}
use Rattle.hm_lsp_sources.specs.Following.{last_open}
use Rattle.hm_lsp_sources.proofs.documents.last_open.Given as goal

abbrev pub invariant-documents : goal.invariant-documents
invariant-documents l = option_map (λ d. d.now) l.found ≡ last_open (take l.index l.documents) l.name
