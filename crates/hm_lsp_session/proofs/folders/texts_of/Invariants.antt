use Rattle.std.proofs.Common.{◌≡◌, map, string_bytes, take}
use Rattle.serde_json.specs.View.{items_view}
use Rattle.hm_lsp_session.specs.Folders.{texts_in}
use Rattle.hm_lsp_session.proofs.folders.texts_of.Given as goal

abbrev pub invariant-listed : goal.invariant-listed
invariant-listed l = map string_bytes l.texts.items ≡ texts_in (items_view (take l.value-index l.values))
