-- The models of literals.
use Rattle.hm_syntax.specs.Names.{LiteralTree, integer, character, string}
use Rattle.hm_syntax.specs.declared.ast.LiteralKind.{LiteralKind}
use Rattle.hm_syntax.specs.declared.ast.LiteralKind.TheVariants.{Integer, Character, Text}

abbrev pub literal_of : LiteralKind → LiteralTree
literal_of (Integer s) = integer s
literal_of (Character s) = character s
literal_of (Text s) = string s
