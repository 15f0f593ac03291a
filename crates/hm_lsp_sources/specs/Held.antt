-- What is readable of the sources of a client.
use Rattle.std.specs.Prelude.{List}
use Rattle.hm_lsp_sources.specs.declared.following.Sources.{Sources}
use Rattle.hm_lsp_sources.specs.declared.source.Source.{Source}
use Rattle.hm_service_sources.specs.declared.held.HeldSource.{HeldSource}

-- the sources, in the order of their numbers
abbrev pub named_in : Sources → List Source
named_in s = s.named.items

-- the texts that are held for them, in the same order
abbrev pub held_in : Sources → List HeldSource
held_in s = s.held.items
