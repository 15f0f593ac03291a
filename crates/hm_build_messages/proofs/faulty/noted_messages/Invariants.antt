use Rattle.std.proofs.Common.{map, take}
use Rattle.std.specs.Arc.{arc_value}
use Rattle.hm_build_messages.specs.Explanations.{AreInTurn, IsNoted}
use Rattle.hm_build_messages.proofs.faulty.noted_messages.Given as goal

abbrev pub invariant-loop-fault : goal.invariant-loop-fault
invariant-loop-fault l =
    AreInTurn (IsNoted l.«module».format l.«module».page.now.file.now l.«module».page.now.lines l.«module».question.now.name.now (map arc_value l.«module».question.now.imports.now))
    (take l.fault-index l.«module».faults.now) l.fn.allowance.is_limit_stated l.allowance.is_limit_stated l.text.items
