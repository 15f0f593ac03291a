use Rattle.std.proofs.Common.{◌≡◌, map, take}
use Rattle.serde_json.specs.View.{view}
use Rattle.hm_lsp_values.specs.Diagnostics.{edit_data}
use Rattle.hm_lsp_values.proofs.diagnostics.edits_value.Given as goal

abbrev pub invariant-loop-edit : goal.invariant-loop-edit
invariant-loop-edit l = map view l.values.items ≡ map (edit_data l.encoding) (take l.edit-index l.edits)
