use Rattle.std.proofs.Common.{All, take}
use Rattle.hm_lsp_sources.specs.Following.{HasSource}
use Rattle.hm_lsp_sources.specs.Held.{named_in}
use Rattle.hm_lsp_sources.specs.Steps.{IsGrown}
use Rattle.hm_lsp_sources.proofs.following.Sources.add_all.Given as goal

abbrev pub invariant-documents : goal.invariant-documents
invariant-documents g l = IsGrown (All (HasSource (named_in l.self)) (take l.document-index l.documents)) l.is_added l.initial.self l.self
