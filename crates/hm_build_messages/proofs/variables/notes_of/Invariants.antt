use Rattle.std.proofs.Common.{take}
use Rattle.hm_messages.specs.Messages.{AreEach}
use Rattle.hm_build_messages.specs.Variables.{IsVariableNote}
use Rattle.hm_build_messages.proofs.variables.notes_of.Given as goal

abbrev pub invariant-loop-like : goal.invariant-loop-like
invariant-loop-like l = AreEach (IsVariableNote l.«module».format l.«module».page.now.file.now l.«module».page.now.lines) (take l.like-index l.likes) l.text.items
