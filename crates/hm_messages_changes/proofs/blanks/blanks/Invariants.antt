use Rattle.std.proofs.Common.{◌≡◌, map, take}
use Rattle.hm_messages_changes.specs.Blanks.{blank}
use Rattle.hm_messages_changes.proofs.blanks.blanks.Given as goal

abbrev pub invariant-loop-byte : goal.invariant-loop-byte
invariant-loop-byte l = l.made.items ≡ map blank (take l.byte-index l.bytes)
