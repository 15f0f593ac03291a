-- The letters of signatures, as the code has them.
use Rattle.hm_messages_types.specs.Shown.{NamedType}
use Rattle.hm_messages_types.specs.declared.letters.Letter.{Letter}

abbrev pub letter_of : Letter → NamedType
letter_of l = record { name = l.name.now; text = l.text.now }
