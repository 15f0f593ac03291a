-- The grammar of a source.
use Rattle.std.specs.Prelude.{◌≡◌, ℕ, List, [], ◌∷◌, Option}
use Rattle.hm_lex.specs.declared.token.Token.{Token}
use Rattle.hm_syntax.specs.Names.{Identifier}
use Rattle.hm_syntax.specs.Trees.{Declaration}
use Rattle.hm_syntax.specs.declared.ast.Export.{Export}
use Rattle.hm_syntax.specs.declared.ast.Import.{Import}
use Rattle.hm_syntax.specs.declared.ast.Module.{Module}
use Rattle.hm_parse_grammar.specs.declared.symbol.Symbol.TheVariants.{Semicolon, LeftBrace, RightBrace, Module as ModuleWord, Where}
use Rattle.hm_parse_grammar.specs.Tokens.{Terminal, modid_of, terminals}
use Rattle.hm_parse_grammar.specs.Grammar.Marks.{IsQcon, Items}
use Rattle.hm_parse_grammar.specs.Grammar.Headers.{MayExports, Import'}
use Rattle.hm_parse_grammar.specs.Grammar.Expressions.{Topdecl}

abbrev pub module_of : Identifier → Option (List Export) → List Import → List Declaration → Module
module_of name es is ds = record { header = record { name = name; exports = es; imports = is }; decls = ds }

-- imports ; topdecls, where any item may be empty; no import follows a topdecl
pub data Body : List Import → List Declaration → List Terminal → List Terminal → Type 0 where
  body_decls : {ds : List Declaration} {ts rest : List Terminal} → Items Topdecl ds ts rest → Body [] ds ts rest
  body_import : {i : Import} {ts rest : List Terminal} → Import' i ts rest → Body (i ∷ []) [] ts rest
  body_empty : {is : List Import} {ds : List Declaration} {k : Terminal} {us rest : List Terminal} → k.symbol ≡ Semicolon → Body is ds us rest → Body is ds (k ∷ us) rest
  body_more : {i : Import} {is : List Import} {ds : List Declaration} {k : Terminal} {ts us rest : List Terminal} →
      Import' i ts (k ∷ us) → k.symbol ≡ Semicolon → Body is ds us rest → Body (i ∷ is) ds ts rest

-- module = 'module' modid [exports] 'where' '{' imports ';' topdecls '}'
pub data Module' : Module → List Terminal → List Terminal → Type 0 where
  «module» : {es : Option (List Export)} {is : List Import} {ds : List Declaration} {k n w o c : Terminal} {us vs rest : List Terminal} →
      k.symbol ≡ ModuleWord → IsQcon n → MayExports es us (w ∷ o ∷ vs) → w.symbol ≡ Where → o.symbol ≡ LeftBrace →
      Body is ds vs (c ∷ rest) → c.symbol ≡ RightBrace → Module' (module_of (modid_of n) es is ds) (k ∷ n ∷ us) rest

-- source = module*
pub data Source : List Module → List Terminal → Type 0 where
  source_none : Source [] []
  source_more : {m : Module} {ms : List Module} {ts us : List Terminal} → Module' m ts us → Source ms us → Source (m ∷ ms) ts

-- The tokens of a source spell the modules.
abbrev pub Spells : List Module → List ℕ → List Token → Type 0
Spells ms source tokens = Source ms (terminals source tokens)
