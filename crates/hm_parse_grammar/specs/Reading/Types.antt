-- Reading types. No public clause names these.
use Rattle.std.specs.Prelude.{ℕ, zero, suc, List, Bool, true, false, Option, Some, None, if◌then◌else◌, length}
use Rattle.hm_syntax.specs.Trees.{TypeTree, variable_type, constructor_type, function_type, tuple_type, list_type, unit_type, no_types}
use Rattle.hm_syntax.specs.Lists.{types}
use Rattle.hm_parse_grammar.specs.declared.symbol.Symbol.{Symbol}
use Rattle.hm_parse_grammar.specs.declared.symbol.Symbol.TheVariants.{Open, Close, OpenSquare, CloseSquare, Arrow, Var, Con, QCon}
use Rattle.hm_parse_grammar.specs.Symbols.{is_qcon}
use Rattle.hm_parse_grammar.specs.Reading.Basics.{◌>>=◌, Reader, peek, is_at, tail, expect, name_at, loop, closing}

abbrev pub begins_atype : Symbol → Bool
begins_atype Var = true
begins_atype Con = true
begins_atype QCon = true
begins_atype Open = true
begins_atype OpenSquare = true
begins_atype _ = false

abbrev pub tuple_of_types : List TypeTree → TypeTree
tuple_of_types ts = tuple_type (types ts)

-- r reads whole types
module _ (r : Reader TypeTree) where
  -- the rest after `(`
  unfoldable pub type_in : Reader TypeTree
  type_in ts = if is_at Close ts then Some (unit_type, tail ts)
      else (do
        t ← r ts
        closing r tuple_of_types t.0 t.1)

  abbrev pub atype_by : Symbol → Reader TypeTree
  atype_by Var ts = do
    n ← name_at ts
    Some (variable_type n.0, n.1)
  atype_by Con ts = do
    n ← name_at ts
    Some (constructor_type n.0 no_types, n.1)
  atype_by QCon ts = do
    n ← name_at ts
    Some (constructor_type n.0 no_types, n.1)
  atype_by Open ts = type_in (tail ts)
  atype_by OpenSquare ts = do
    t ← r (tail ts)
    us ← expect CloseSquare t.1
    Some (list_type t.0, us)
  atype_by _ ts = None

  unfoldable pub atype_with : Reader TypeTree
  atype_with ts = atype_by (peek ts) ts

  unfoldable pub next_atype : Reader (Option TypeTree)
  next_atype ts = if begins_atype (peek ts)
      then (do
        t ← atype_with ts
        Some (Some t.0, t.1))
      else Some (None, ts)

  unfoldable pub atypes_with : Reader (List TypeTree)
  atypes_with ts = loop next_atype ts

  unfoldable pub btype_with : Reader TypeTree
  btype_with ts = if is_qcon (peek ts)
      then (do
        n ← name_at ts
        xs ← atypes_with n.1
        Some (constructor_type n.0 (types xs.0), xs.1))
      else atype_with ts

  unfoldable pub type_step : Reader TypeTree
  type_step ts = do
    t ← btype_with ts
    if is_at Arrow t.1
        then (do
          u ← r (tail t.1)
          Some (function_type t.0 u.0, u.1))
        else Some (t.0, t.1)

-- gives up after n nested calls
abbrev pub type_for : ℕ → Reader TypeTree
type_for zero ts = None
type_for (suc n) ts = type_step (type_for n) ts

-- each call takes a token, so as many calls as there are tokens are enough
unfoldable pub type_at : Reader TypeTree
type_at ts = type_for (suc (length ts)) ts
