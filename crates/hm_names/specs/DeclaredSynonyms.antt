-- The conditions under which the right side of a declared synonym is a type (Report, section 4.2.2).
use Rattle.std.specs.Prelude.{ℕ, List, Contains}
use Rattle.hm_syntax.specs.Names.{Identifier}
use Rattle.hm_syntax.specs.Trees.{TypeTree}
use Rattle.hm_names.specs.Faults.Lists.{Repeats}
use Rattle.hm_names.specs.Variables.{texts, type_variables}

-- each variable is one of these
abbrev pub AreAmong : List (List ℕ) → List Identifier → Type 0
AreAmong vs ns = (n : Identifier) → Contains ns n → Contains vs n.text

-- no parameter occurs twice, and each variable of the right side is a parameter
pub record IsSound (ps : List Identifier) (t : TypeTree) : Type 0 where
  pub distinct : (n : Identifier) → ¬ (Repeats ps n)
  pub closed : AreAmong (texts ps) (type_variables t)
