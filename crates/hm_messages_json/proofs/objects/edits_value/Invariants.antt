use Rattle.std.proofs.Common.{◌≡◌, map, take}
use Rattle.serde_json.specs.View.{view}
use Rattle.hm_messages_json.specs.Objects.{edit_data}
use Rattle.hm_messages_json.proofs.objects.edits_value.Given as goal

abbrev pub invariant-loop-edit : goal.invariant-loop-edit
invariant-loop-edit l = map view l.items.items ≡ map edit_data (take l.edit-index l.edits)
