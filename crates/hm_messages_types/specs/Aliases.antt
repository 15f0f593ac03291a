-- The names of types, as the code has them.
use Rattle.std.specs.Prelude.{string_bytes}
use Rattle.hm_messages_types.specs.Shown.{NamedType}
use Rattle.hm_messages_types.specs.declared.shown.Alias.{Alias}

abbrev pub alias_of : Alias → NamedType
alias_of a = record { name = string_bytes a.name; text = string_bytes a.text }
