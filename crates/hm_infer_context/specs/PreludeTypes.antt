-- The types of Prelude that are kept for conditions and literals. No public clause names these.
use Rattle.std.specs.Prelude.{ℕ, List, codes}
use Rattle.hm_types.specs.Types.{App as app, done as none}
use Rattle.hm_types.specs.Monotypes.{Mono}
use Rattle.hm_types.specs.declared.Head.TheVariants as head

-- the type of Prelude with this name, without arguments
abbrev pub prelude_type_of : List ℕ → Mono
prelude_type_of name = app (head.Named (record { «module» = codes "Prelude"; name = name })) none
