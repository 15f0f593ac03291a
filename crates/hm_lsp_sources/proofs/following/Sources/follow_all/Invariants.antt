use Rattle.hm_lsp_sources.specs.Steps.{IsFollowedBelow}
use Rattle.hm_lsp_sources.proofs.following.Sources.follow_all.Given as goal

abbrev pub invariant-sources : goal.invariant-sources
invariant-sources g l = IsFollowedBelow l.documents l.number l.is_other l.initial.self l.self
