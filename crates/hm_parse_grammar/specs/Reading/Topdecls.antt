-- Reading the declarations of a module. No public clause names these.
use Rattle.std.specs.Prelude.{if◌then◌else◌}
use Rattle.hm_syntax.specs.Trees.{Declaration}
use Rattle.hm_parse_grammar.specs.declared.symbol.Symbol.TheVariants.{Data, Newtype, TypeWord}
use Rattle.hm_parse_grammar.specs.Reading.Basics.{Reader, is_at, tail}
use Rattle.hm_parse_grammar.specs.Reading.TypeDeclarations.{data_in, newtype_in, synonym_in}
use Rattle.hm_parse_grammar.specs.Reading.Expressions.{decl_with, all_expressions}

unfoldable pub topdecl_at : Reader Declaration
topdecl_at ts = if is_at Data ts then data_in (tail ts)
    else if is_at Newtype ts then newtype_in (tail ts)
    else if is_at TypeWord ts then synonym_in (tail ts)
    else decl_with all_expressions ts
