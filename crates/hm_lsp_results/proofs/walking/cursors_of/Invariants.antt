use Rattle.std.proofs.Common.{◌≡◌, map, take}
use Rattle.hm_lsp_results.specs.Walks.{walk_in}
use Rattle.hm_lsp_results.proofs.walking.cursors_of.Given as goal

abbrev pub invariant-sources : goal.invariant-sources
invariant-sources l = l.cursors.items ≡ map (walk_in l.encoding) (take l.source-index l.held)
