use Rattle.std.proofs.Common.{map, take}
use Rattle.hm_messages_json.specs.Edits.{AreEditsOf, changed_of}
use Rattle.hm_messages_json.proofs.changes.edits_of.Given as goal

abbrev pub invariant-loop-change : goal.invariant-loop-change
invariant-loop-change l = AreEditsOf l.lines (map changed_of (take l.change-index l.changes)) l.edits.items
