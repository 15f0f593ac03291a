use Rattle.std.proofs.Common.{take}
use Rattle.hm_messages.specs.Messages.{AreEach}
use Rattle.hm_build_messages.specs.Following.{IsFollowedIn}
use Rattle.hm_build_messages.proofs.detailing.detailed_messages.Given as goal

abbrev pub invariant-loop-index : goal.invariant-loop-index
invariant-loop-index l = AreEach (IsFollowedIn l.here) (take l.index l.here.named.now.faulty.faults.now) l.text.items
