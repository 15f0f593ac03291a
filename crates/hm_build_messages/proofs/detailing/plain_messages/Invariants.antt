use Rattle.std.proofs.Common.{◌≡◌, take}
use Rattle.hm_messages_details.specs.Details.{nothing}
use Rattle.hm_messages.specs.Messages.{AreEach}
use Rattle.hm_build_messages.specs.Explanations.{IsDetailed}
use Rattle.hm_build_messages.proofs.detailing.plain_messages.Given as goal

abbrev pub invariant-loop-fault : goal.invariant-loop-fault
invariant-loop-fault l = AreEach (IsDetailed l.format l.page.file.now l.page.lines (λ f known. known ≡ nothing)) (take l.fault-index l.faults) l.text.items
