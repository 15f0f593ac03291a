-- Reading the part of a module before its declarations. No public clause names these.
use Rattle.std.specs.Prelude.{List, [], ◌∷◌, Bool, true, false, Option, Some, None, if◌then◌else◌, codes}
use Rattle.hm_syntax.specs.Names.{Identifier}
use Rattle.hm_syntax.specs.declared.ast.Export.{Export}
use Rattle.hm_syntax.specs.declared.ast.Export.TheVariants as exports
use Rattle.hm_syntax.specs.declared.ast.SubItems.{SubItems}
use Rattle.hm_syntax.specs.declared.ast.SubItems.TheVariants as subs
use Rattle.hm_syntax.specs.declared.ast.Import.{Import}
use Rattle.hm_syntax.specs.declared.ast.ImportList.{ImportList}
use Rattle.hm_syntax.specs.declared.ast.ImportList.TheVariants as lists
use Rattle.hm_syntax.specs.declared.ast.ImportItem.{ImportItem}
use Rattle.hm_syntax.specs.declared.ast.ImportItem.TheVariants as items
use Rattle.hm_parse_grammar.specs.declared.symbol.Symbol.{Symbol}
use Rattle.hm_parse_grammar.specs.declared.symbol.Symbol.TheVariants.{Dots, Open, Close, Comma, Semicolon, RightBrace, Import as ImportWord, Module as ModuleWord, Var, Con, QVar, QCon}
use Rattle.hm_parse_grammar.specs.Tokens.{Terminal}
use Rattle.hm_parse_grammar.specs.Reading.Basics.{◌>>=◌, Reader, peek, is_at, tail, expect, is_at_word, name_at, modid_at, item_end, past_semicolons, loop, behind}

unfoldable pub con_at : Reader Identifier
con_at ts = if is_at Con ts then name_at ts else None

unfoldable pub next_con : Reader (Option Identifier)
next_con ts = if is_at Comma ts
    then (do
      n ← con_at (tail ts)
      Some (Some n.0, n.1))
    else Some (None, ts)

-- one or more constructors
unfoldable pub con_row : Reader (List Identifier)
con_row ts = do
  n ← con_at ts
  behind (n.0 ∷ []) (loop next_con n.1)

-- the rest after `(`
unfoldable pub subs_in : Reader SubItems
subs_in ts = if is_at Dots ts then (do
  us ← expect Close (tail ts)
  Some (subs.All, us))
    else if is_at Close ts then Some (subs.Some [], tail ts)
    else (do
      ns ← con_row ts
      us ← expect Close ns.1
      Some (subs.Some ns.0, us))

unfoldable pub subs_at : Reader SubItems
subs_at ts = if is_at Open ts then subs_in (tail ts) else Some (subs.None, ts)

abbrev pub export_by : Symbol → Reader Export
export_by Var ts = do
  n ← name_at ts
  Some (exports.Var n.0, n.1)
export_by QVar ts = do
  n ← name_at ts
  Some (exports.Var n.0, n.1)
export_by Con ts = do
  n ← name_at ts
  s ← subs_at n.1
  Some (exports.Con n.0 s.0, s.1)
export_by QCon ts = do
  n ← name_at ts
  s ← subs_at n.1
  Some (exports.Con n.0 s.0, s.1)
export_by ModuleWord ts = do
  n ← modid_at (tail ts)
  Some (exports.Whole n.0, n.1)
export_by _ ts = None

unfoldable pub export_at : Reader Export
export_at ts = export_by (peek ts) ts

abbrev pub item_by : Symbol → Reader ImportItem
item_by Var ts = do
  n ← name_at ts
  Some (items.Var n.0, n.1)
item_by Con ts = do
  n ← name_at ts
  s ← subs_at n.1
  Some (items.Con n.0 s.0, s.1)
item_by _ ts = None

unfoldable pub item_at : Reader ImportItem
item_at ts = item_by (peek ts) ts

-- one more element of a list with the comma after it, or the list's end
abbrev pub next_listed : {A : Type 0} → Reader A → Reader (Option A)
next_listed one ts = if is_at Close ts then Some (None, tail ts)
    else (do
      x ← one ts
      us ← item_end Comma Close x.1
      Some (Some x.0, us))

unfoldable pub next_export : Reader (Option Export)
next_export ts = next_listed export_at ts

unfoldable pub next_item : Reader (Option ImportItem)
next_item ts = next_listed item_at ts

-- the rest after `(`. An empty list may have a comma
abbrev pub listed_in : {A : Type 0} → Reader (Option A) → Reader (List A)
listed_in next ts = if is_at Comma ts
    then (do
      us ← expect Close (tail ts)
      Some ([], us))
    else loop next ts

unfoldable pub exports_in : Reader (List Export)
exports_in ts = listed_in next_export ts

unfoldable pub items_in : Reader (List ImportItem)
items_in ts = listed_in next_item ts

unfoldable pub exports_at : Reader (Option (List Export))
exports_at ts = if is_at Open ts
    then (do
      es ← exports_in (tail ts)
      Some (Some es.0, es.1))
    else Some (None, ts)

abbrev pub qualified_at : List Terminal → Bool × List Terminal
qualified_at ts = if is_at_word (codes "qualified") ts then (true, tail ts) else (false, ts)

unfoldable pub alias_at : Reader (Option Identifier)
alias_at ts = if is_at_word (codes "as") ts
    then (do
      n ← modid_at (tail ts)
      Some (Some n.0, n.1))
    else Some (None, ts)

unfoldable pub list_at : Reader ImportList
list_at ts = if is_at_word (codes "hiding") ts
    then (do
      us ← expect Open (tail ts)
      is ← items_in us
      Some (lists.Hiding is.0, is.1))
    else if is_at Open ts
    then (do
      is ← items_in (tail ts)
      Some (lists.Only is.0, is.1))
    else Some (lists.Every, ts)

-- the rest after `import`, and after `qualified` if that is next
unfoldable pub import_in : Bool → Reader Import
import_in q ts = do
  n ← modid_at ts
  a ← alias_at n.1
  l ← list_at a.1
  Some (record { qualified = q; name = n.0; alias = a.0; list = l.0 }, l.1)

-- the rest after `import`
unfoldable pub import_at : Reader Import
import_at ts = import_in (qualified_at ts).0 (qualified_at ts).1

unfoldable pub import_from : Reader (Option Import)
import_from ts = if is_at ImportWord ts
    then (do
      i ← import_at (tail ts)
      us ← item_end Semicolon RightBrace i.1
      Some (Some i.0, us))
    else Some (None, ts)

unfoldable pub next_import : Reader (Option Import)
next_import ts = import_from (past_semicolons ts)
