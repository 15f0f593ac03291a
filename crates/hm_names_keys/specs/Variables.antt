-- Variables of trees: names without their places.
use Rattle.std.specs.Prelude.{ℕ, List, Option}
use Rattle.hm_syntax.specs.Names as written
use Rattle.hm_typing.specs.Names.{Identifier}
use Rattle.hm_names.specs.Syntax.{name_in}

pub record Variable : Type 0 where
  pub qualifier : Option (List ℕ)
  pub text : List ℕ

abbrev pub variable_of : written.Identifier → Variable
variable_of n = record { qualifier = n.qualifier; text = n.text }

-- the name in the typing
abbrev pub identifier : Variable → Identifier
identifier x = name_in x.qualifier x.text
