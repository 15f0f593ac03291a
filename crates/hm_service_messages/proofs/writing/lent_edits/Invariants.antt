use Rattle.std.proofs.Common.{◌≡◌, map, take}
use Rattle.hm_service_messages.specs.Lines.{edit_of, lent_of}
use Rattle.hm_service_messages.proofs.writing.lent_edits.Given as goal

abbrev pub invariant-loop-edit : goal.invariant-loop-edit
invariant-loop-edit l = map lent_of l.lent.items ≡ map edit_of (take l.edit-index l.edits)
