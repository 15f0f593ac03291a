use Rattle.std.proofs.Common.{◌≡◌, ◌⊎◌, [], map, take}
use Rattle.std.specs.Arc.{arc_value}
use Rattle.hm_messages.specs.Messages.{AreEach}
use Rattle.hm_build_messages.specs.Expected.{IsExpectedNote}
use Rattle.hm_build_messages.proofs.expected.notes_of.Given as goal

abbrev pub invariant-loop-fault : goal.invariant-loop-fault
invariant-loop-fault l = AreEach (λ f t. (t ≡ []) ⊎ IsExpectedNote l.«module».format l.«module».page.now.file.now l.«module».page.now.lines l.«module».question.now.name.now
    (map arc_value l.«module».question.now.imports.now) l.«module».faults.now f t) (take l.fault-index l.faults) l.text.items
