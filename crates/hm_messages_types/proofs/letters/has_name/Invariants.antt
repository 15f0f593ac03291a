use Rattle.std.proofs.Common.{◌≡◌, All, take}
use Rattle.hm_messages_types.specs.Lettered.{letter_of}
use Rattle.hm_messages_types.proofs.letters.has_name.Given as goal

abbrev pub invariant-letters : goal.invariant-letters
invariant-letters l = All (λ m. ¬ ((letter_of m).name ≡ l.name)) (take l.at l.letters)
