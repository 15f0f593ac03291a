-- Worked examples of a module's object.
use Rattle.std.specs.Prelude.{◌≡◌, ℕ, List, [], ◌∷◌, Option, None, Some, codes}
use Rattle.serde_json.specs.Data.{object, member, no_members, string, null}
use Rattle.hm_syntax.specs.Names.{Identifier}
use Rattle.hm_syntax.specs.Trees.{TypeTree, variable_type, constructor_type, function_type, tuple_type, list_type, unit_type, no_types, more_types}
use Rattle.hm_verdicts.specs.Sets.{no_module}
use Rattle.hm_verdicts.specs.Verdicts.{Skipped}
use Rattle.hm_build_objects.specs.Objects.{defines_data, list_data, module_data, runs}
use Rattle.hm_build_objects.specs.TypeTexts.{written_text}
use Rattle.hm_build_objects.specs.declared.type_texts.Side.TheVariants.{Whole}

-- a name at a column of line 1
abbrev pub name : List ℕ → ℕ → Identifier
name text column = record { qualifier = None; text = text; line = 1; column = column }

abbrev pub a : TypeTree
a = variable_type (name (codes "a") 1)

abbrev pub maybe : TypeTree → TypeTree
maybe t = constructor_type (record { qualifier = Some (codes "P"); text = codes "Maybe"; line = 1; column = 1 }) (more_types t no_types)

-- a function is in parentheses left of an arrow, and a constructor with an argument is as an argument. Neither is elsewhere
pub record TypeTextsRow : Type 0 where
  pub left : written_text Whole (function_type (function_type a a) (list_type (maybe a))) ≡ codes "(a -> a) -> [P.Maybe a]"
  pub right : written_text Whole (function_type a (function_type a unit_type)) ≡ codes "a -> a -> ()"
  pub applied : written_text Whole (tuple_type (more_types (maybe (maybe a)) (more_types a no_types))) ≡ codes "(P.Maybe (P.Maybe a), a)"
  pub bare : ¬ (written_text Whole (function_type (function_type a a) a) ≡ codes "a -> a -> a")

-- two clauses of f in turn are one, and clauses apart are two
pub record RunsRow : Type 0 where
  pub clauses : runs None (name (codes "f") 1 ∷ name (codes "f") 9 ∷ name (codes "g") 17 ∷ []) ≡ name (codes "f") 1 ∷ name (codes "g") 17 ∷ []
  pub apart : runs None (name (codes "f") 1 ∷ name (codes "g") 9 ∷ name (codes "f") 17 ∷ []) ≡ name (codes "f") 1 ∷ name (codes "g") 9 ∷ name (codes "f") 17 ∷ []

-- a module without declarations that is skipped because of B
abbrev pub LineRow : Type 0
LineRow = module_data (codes "a.hs") no_module Skipped (codes "B" ∷ []) ≡ object (member (codes "defines") (defines_data [])
    (member (codes "faults") (list_data [])
    (member (codes "file") (string (codes "a.hs"))
    (member (codes "imports") (list_data [])
    (member (codes "interface") null
    (member (codes "kind") (string (codes "module"))
    (member (codes "module") (string [])
    (member (codes "skippedBy") (list_data (string (codes "B") ∷ []))
    (member (codes "verdict") (string (codes "skipped")) no_members)))))))))
