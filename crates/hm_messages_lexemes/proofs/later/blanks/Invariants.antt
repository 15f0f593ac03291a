use Rattle.std.proofs.Common.{◌≡◌, map, take}
use Rattle.hm_messages_lexemes.proofs.later.blanks.Given as goal

abbrev pub invariant-bytes : goal.invariant-bytes
invariant-bytes l = l.made.items ≡ map (λ b. 32) (take l.index l.bytes)
