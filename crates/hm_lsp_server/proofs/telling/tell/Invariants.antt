use Rattle.std.proofs.Common.{◌≡◌, ◌++◌, List, None, map, string_bytes}
use Rattle.std.specs.Prelude.{option_map, slice_index_or}
use Rattle.serde_json.specs.Data.{Data}
use Rattle.serde_json.specs.View.{view}
use Rattle.hm_lsp_server.specs.Published.{AreTold, IsTold}
use Rattle.hm_lsp_server.proofs.telling.tell.Given as goal

abbrev pub invariant-sources : goal.invariant-sources
invariant-sources l = (new : List Data) × (map view l.sent.items ≡ map view l.initial.sent.items ++ new)
    × AreTold (λ n. IsTold l.telling.encoding l.telling.sources.now l.telling.held.now l.telling.checked.now (option_map (λ s. s.now) l.telling.second) (slice_index_or (map (option_map string_bytes) l.shown) n None) n) l.number (map (option_map string_bytes) l.shows.items) new
