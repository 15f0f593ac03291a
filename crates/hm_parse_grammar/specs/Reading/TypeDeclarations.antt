-- Reading declarations of types (Haskell 98 Report, section 4.2). No public clause names these.
use Rattle.std.specs.Prelude.{List, [], ◌∷◌, Option, Some, None, if◌then◌else◌}
use Rattle.hm_syntax.specs.Names.{Identifier}
use Rattle.hm_syntax.specs.Trees.{no_types, more_types, DataConstructor, data_constructor, Declaration, data_declaration, newtype_declaration, synonym_declaration}
use Rattle.hm_syntax.specs.Lists.{types, constructors}
use Rattle.hm_parse_grammar.specs.declared.symbol.Symbol.TheVariants.{Equals, Bar, Var}
use Rattle.hm_parse_grammar.specs.Reading.Basics.{◌>>=◌, Reader, is_at, tail, expect, name_at, loop, behind}
use Rattle.hm_parse_grammar.specs.Reading.Headers.{con_at}
use Rattle.hm_parse_grammar.specs.Reading.Types.{atype_with, atypes_with, type_at}

unfoldable pub next_tyvar : Reader (Option Identifier)
next_tyvar ts = if is_at Var ts
    then (do
      n ← name_at ts
      Some (Some n.0, n.1))
    else Some (None, ts)

unfoldable pub constr_at : Reader DataConstructor
constr_at ts = do
  n ← con_at ts
  xs ← atypes_with type_at n.1
  Some (data_constructor n.0 (types xs.0), xs.1)

unfoldable pub next_constr : Reader (Option DataConstructor)
next_constr ts = if is_at Bar ts
    then (do
      c ← constr_at (tail ts)
      Some (Some c.0, c.1))
    else Some (None, ts)

-- one or more constructors
unfoldable pub constrs_at : Reader (List DataConstructor)
constrs_at ts = do
  c ← constr_at ts
  behind (c.0 ∷ []) (loop next_constr c.1)

-- the rest after `data`
unfoldable pub data_in : Reader Declaration
data_in ts = do
  n ← con_at ts
  ps ← loop next_tyvar n.1
  us ← expect Equals ps.1
  cs ← constrs_at us
  Some (data_declaration n.0 ps.0 (constructors cs.0), cs.1)

-- the rest after `newtype`
unfoldable pub newtype_in : Reader Declaration
newtype_in ts = do
  n ← con_at ts
  ps ← loop next_tyvar n.1
  us ← expect Equals ps.1
  c ← con_at us
  t ← atype_with type_at c.1
  Some (newtype_declaration n.0 ps.0 (data_constructor c.0 (more_types t.0 no_types)), t.1)

-- the rest after `type`
unfoldable pub synonym_in : Reader Declaration
synonym_in ts = do
  n ← con_at ts
  ps ← loop next_tyvar n.1
  us ← expect Equals ps.1
  t ← type_at us
  Some (synonym_declaration n.0 ps.0 t.0, t.1)
