use Rattle.std.proofs.Common.{take}
use Rattle.hm_messages.specs.Messages.{AreEach}
use Rattle.hm_build_messages.specs.Explanations.{IsHiddenNote}
use Rattle.hm_build_messages.proofs.hidden.notes_of.Given as goal

abbrev pub invariant-loop-fault : goal.invariant-loop-fault
invariant-loop-fault l = AreEach (IsHiddenNote l.format l.page.file.now l.page.lines) (take l.fault-index l.faults) l.text.items
