use Rattle.std.proofs.Common.{◌≡◌, take, true}
use Rattle.std.specs.List.{list_all}
use Rattle.hm_lsp_sources.specs.Names.{is_other}
use Rattle.hm_lsp_sources.proofs.source.number_of.Given as goal

abbrev pub invariant-sources : goal.invariant-sources
invariant-sources l = list_all (is_other l.name) (take l.index l.sources) ≡ true
