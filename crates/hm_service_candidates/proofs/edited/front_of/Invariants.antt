use Rattle.std.proofs.Common.{map}
use Rattle.hm_service_candidates.specs.Cursors.{IsCursor}
use Rattle.hm_service_candidates.proofs.Edits.{IsBegun}
use Rattle.hm_service_candidates.proofs.edited.front_of.Given as goal
use Rattle.hm_service_messages.specs.Lines.{edit_of}

abbrev pub invariant-edits : goal.invariant-edits
invariant-edits l = IsCursor l.text l.end × IsBegun l.text (map edit_of l.edits) l.edit-index l.end.at l.bytes.items
