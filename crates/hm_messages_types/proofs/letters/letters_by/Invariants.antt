use Rattle.std.proofs.Common.{map}
use Rattle.hm_messages_types.specs.Lettered.{letter_of}
use Rattle.hm_messages_types.specs.Letters.{AreApart}
use Rattle.hm_messages_types.proofs.letters.letters_by.Given as goal

abbrev pub invariant-loop-at : goal.invariant-loop-at
invariant-loop-at l = AreApart (map letter_of l.letters.items)
