-- The texts that places are looked for in. No public clause names these.
use Rattle.std.specs.Prelude.{List, map}
use Rattle.hm_lsp_positions.specs.Cursors.{Walk}
use Rattle.hm_lsp_positions.specs.declared.units.Encoding.{Encoding}
use Rattle.hm_lsp_results.specs.Asked.{Subject}
use Rattle.hm_service_sources.specs.declared.held.HeldSource.{HeldSource}

-- the text that stands for a source
abbrev pub walk_in : Encoding → HeldSource → Walk
walk_in encoding source = record { encoding = encoding; text = source.standing.items }

-- the same of each source that is held
abbrev pub walks_of : Subject → List Walk
walks_of asked = map (walk_in asked.encoding) asked.held
