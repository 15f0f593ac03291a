use Rattle.std.proofs.Common.{map}
use Rattle.hm_messages_types.specs.Lettered.{letter_of}
use Rattle.hm_messages_types.proofs.Folding.{IsLetteredTo}
use Rattle.hm_messages_types.proofs.letters.lettered_bytes.Given as goal

abbrev pub invariant-loop : goal.invariant-loop
invariant-loop l = IsLetteredTo (map letter_of l.letters) l.text l.rest l.shown.items
