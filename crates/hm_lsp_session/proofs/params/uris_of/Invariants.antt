use Rattle.std.proofs.Common.{◌≡◌, map, string_bytes, take}
use Rattle.serde_json.specs.View.{items_view}
use Rattle.hm_lsp_session.specs.Params.{uris_in}
use Rattle.hm_lsp_session.proofs.params.uris_of.Given as goal

abbrev pub invariant-listed : goal.invariant-listed
invariant-listed l = map string_bytes l.uris.items ≡ uris_in (items_view (take l.value-index l.values))
