-- Places on names. A name is written in one line, with its qualifier and a dot before it if it has one (Haskell 98 Report, section 2.4).
use Rattle.std.specs.Prelude.{ℕ, ◌+◌, ◌==◌, nat_le, nat_lt, Bool, ◌&&◌, List, length, Option, Some, None}
use Rattle.hm_lex.specs.declared.token.Place.{Place}
use Rattle.hm_syntax.specs.Names.{Identifier}

-- the number of bytes of a qualifier with the dot after it
abbrev pub qualifier_length : Option (List ℕ) → ℕ
qualifier_length None = 0
qualifier_length (Some q) = length q + 1

-- the number of bytes of a name as it is written
abbrev pub written_length : Identifier → ℕ
written_length n = qualifier_length n.qualifier + length n.text

-- the place is on the name: on its line, from its first byte to its last
abbrev pub is_on : Place → Identifier → Bool
is_on p n = (n.line == p.line) && (nat_le n.column p.column && nat_lt p.column (n.column + written_length n))
