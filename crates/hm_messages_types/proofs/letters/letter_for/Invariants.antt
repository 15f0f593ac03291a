use Rattle.std.proofs.Common.{◌≡◌, All, take}
use Rattle.hm_messages_types.specs.Lettered.{letter_of}
use Rattle.hm_messages_types.proofs.letters.letter_for.Given as goal

abbrev pub invariant-letters : goal.invariant-letters
invariant-letters l = All (λ m. ¬ ((letter_of m).text ≡ l.text)) (take l.at l.letters)
