-- Reading a source. No public clause names these.
use Rattle.std.specs.Prelude.{List, Option, Some, None, if◌then◌else◌}
use Rattle.hm_syntax.specs.Trees.{Declaration}
use Rattle.hm_syntax.specs.declared.ast.Module.{Module}
use Rattle.hm_parse_grammar.specs.declared.symbol.Symbol.TheVariants.{Semicolon, LeftBrace, RightBrace, Module as ModuleWord, Where}
use Rattle.hm_parse_grammar.specs.Tokens.{Terminal}
use Rattle.hm_parse_grammar.specs.Grammar.Modules.{module_of}
use Rattle.hm_parse_grammar.specs.Reading.Basics.{◌>>=◌, Reader, is_at, is_done, tail, expect, modid_at, item_end, past_semicolons, loop}
use Rattle.hm_parse_grammar.specs.Reading.Headers.{exports_at, next_import}
use Rattle.hm_parse_grammar.specs.Reading.Topdecls.{topdecl_at}

unfoldable pub topdecl_from : Reader (Option Declaration)
topdecl_from ts = if is_at RightBrace ts then Some (None, tail ts)
    else (do
      d ← topdecl_at ts
      us ← item_end Semicolon RightBrace d.1
      Some (Some d.0, us))

unfoldable pub next_topdecl : Reader (Option Declaration)
next_topdecl ts = topdecl_from (past_semicolons ts)

unfoldable pub module_at : Reader Module
module_at ts = do
  us ← expect ModuleWord ts
  n ← modid_at us
  es ← exports_at n.1
  vs ← expect Where es.1
  ws ← expect LeftBrace vs
  is ← loop next_import ws
  ds ← loop next_topdecl is.1
  Some (module_of n.0 es.0 is.0 ds.0, ds.1)

unfoldable pub next_module : Reader (Option Module)
next_module ts = if is_done ts then Some (None, ts)
    else (do
      m ← module_at ts
      Some (Some m.0, m.1))

-- the modules that the whole list spells
unfoldable pub source_of : List Terminal → Option (List Module)
source_of ts = do
  ms ← loop next_module ts
  Some ms.0
