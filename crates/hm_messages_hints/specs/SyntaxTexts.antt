-- The texts of the hint at a fault of syntax.
use Rattle.std.specs.Prelude.{ℕ, List, [], ◌++◌, codes}
use Rattle.hm_messages_hints.specs.Features.{feature_help, feature_text}
use Rattle.hm_messages_hints.specs.Marks.{mark_text}
use Rattle.hm_messages_hints.specs.declared.change.TokenChange.{TokenChange}
use Rattle.hm_messages_hints.specs.declared.change.TokenChange.TheVariants.{Insert, Replace, Remove}
use Rattle.hm_messages_hints.specs.declared.syntax_hints.SyntaxHint.{SyntaxHint}
use Rattle.hm_messages_hints.specs.declared.syntax_hints.SyntaxHint.TheVariants.{NoHeader, ModuleEnded, NoBrace, LeftOut, Comprehension, Range, SmallName, AppliedVariable, Repaired, WherePart, NoElse, NotClosed, InPattern, Record, Update, NoAlternative, Unexpected, AppliedName, TypedPattern, ConsPattern, GuardAfterEquals, GuardArrow, ConstructorComma, NumberComma, WhereAfterSemicolon, NoThen, NewtypeArguments, LateQualified, AtSign, GuardAfterSemicolon, LateImport, ExtraComma, ElseGuard, Hole, EqualsInCondition, NoIn, SecondWhere, BraceGroup, GuardEquals}

-- the text of a token between quotes. The end of a source has no text
abbrev pub quoted : List ℕ → List ℕ
quoted [] = codes "the end of the source"
quoted text = codes "'" ++ text ++ codes "'"

abbrev pub change_text : TokenChange → List ℕ → List ℕ
change_text (Insert m) text = codes "expected '" ++ mark_text m ++ codes "' before " ++ quoted text
change_text (Replace m) text = codes "expected '" ++ mark_text m ++ codes "', found " ++ quoted text
change_text Remove text = codes "unexpected " ++ quoted text

-- the first line, with the text of the token that the hint is about
abbrev pub syntax_text : SyntaxHint → List ℕ → List ℕ
syntax_text NoHeader text = codes "a file begins with 'module NAME where {'"
syntax_text ModuleEnded text = codes "the module ends at the '}' before this, and only another 'module' may follow"
syntax_text NoBrace text = codes "expected '{' before " ++ quoted text ++ codes ": layout isn't supported"
syntax_text (LeftOut f) text = feature_text f
syntax_text (Comprehension k) text = codes "list comprehensions aren't supported"
syntax_text (Range k) text = codes "'[a .. b]' isn't supported"
syntax_text SmallName text = quoted text ++ codes " must begin with a capital letter here"
syntax_text AppliedVariable text = codes "a type variable takes no arguments: is '->' or ',' missing before " ++ quoted text ++ codes "?"
syntax_text (Repaired r) text = change_text r.change text
syntax_text (WherePart k) text = codes "'where' can't be within parentheses or square brackets"
syntax_text (NoElse k) text = codes "an 'if' before " ++ quoted text ++ codes " has no 'else'"
syntax_text (NotClosed k) text = codes "a bracket before " ++ quoted text ++ codes " isn't closed"
syntax_text (InPattern k) text = codes "unexpected " ++ quoted text ++ codes " in a pattern of a 'case'"
syntax_text Record text = codes "fields with names aren't supported"
syntax_text Update text = codes "record update isn't supported: is 'where' missing before '{'?"
syntax_text NoAlternative text = codes "a 'case' needs at least one alternative"
syntax_text Unexpected text = codes "unexpected " ++ quoted text
syntax_text (AppliedName k) text = codes "a variable takes no arguments in a pattern: is ',' missing before " ++ quoted text ++ codes "?"
syntax_text TypedPattern text = codes "'::' can't follow a pattern"
syntax_text ConsPattern text = codes "unexpected ':' after a pattern"
syntax_text GuardAfterEquals text = codes "a guard can't follow '='"
syntax_text (GuardArrow k) text = codes "expected '=' after the guard, found '->'"
syntax_text (ConstructorComma k) text = codes "unexpected ',' between constructors"
syntax_text NumberComma text = codes "unexpected ',' after a number"
syntax_text WhereAfterSemicolon text = codes "unexpected ';' before 'where'"
syntax_text (NoThen k) text = codes "an 'if' before " ++ quoted text ++ codes " has no 'then'"
syntax_text (NewtypeArguments k) text = codes "a 'newtype' has one constructor with one argument"
syntax_text LateQualified text = codes "'qualified' comes before the name of the module"
syntax_text AtSign text = codes "'@' can only follow a variable in a pattern"
syntax_text GuardAfterSemicolon text = codes "unexpected ';' before '|'"
syntax_text LateImport text = codes "an import can't follow a declaration"
syntax_text ExtraComma text = codes "unexpected ',' before " ++ quoted text
syntax_text ElseGuard text = codes "a guard can't be 'else'"
syntax_text Hole text = codes "'_' can only be in a pattern"
syntax_text (EqualsInCondition k) text = codes "unexpected '=' in the condition of an 'if'"
syntax_text (NoIn k) text = codes "a 'let' before " ++ quoted text ++ codes " has no 'in'"
syntax_text (SecondWhere k) text = codes "a second 'where' right after the first one"
syntax_text BraceGroup text = codes "an expression can't begin with '{'"
syntax_text (GuardEquals k) text = codes "expected '->' after the guard, found '='"

abbrev pub change_help : TokenChange → List ℕ
change_help (Insert m) = codes "With it this can be read.\n"
change_help (Replace m) = codes "With it this can be read.\n"
change_help Remove = codes "Without it this can be read.\n"

-- the second line
abbrev pub syntax_help : SyntaxHint → List ℕ
syntax_help NoHeader = codes "A source is made of modules with headers and braces.\n"
syntax_help ModuleEnded = codes "Is one `}` too many?\n"
syntax_help NoBrace = codes "Write `{` here, `;` between the items, and `}` at the end.\n"
syntax_help (LeftOut f) = feature_help f
syntax_help (Comprehension k) = codes "Use `map`, `filter` and `concatMap`.\n"
syntax_help (Range k) = codes "Write the list out, or use `iterate` and `take`.\n"
syntax_help SmallName = codes "The names of modules, types and constructors begin with a capital letter, and no others do.\n"
syntax_help (Repaired r) = change_help r.change
syntax_help AppliedVariable = codes "Only a type with a name takes arguments, such as `Maybe a`.\n"
syntax_help (WherePart k) = codes "It belongs to a whole definition or alternative. Within an expression, write `let { .. } in ..`.\n"
syntax_help (NoElse k) = codes "Each `if` has one: `if c then x else y`.\n"
syntax_help (NotClosed k) = codes "Each `(`, `[` and `{` is closed in the order in which they were opened, the last one first.\n"
syntax_help (InPattern k) = codes "An alternative is `pattern -> expression`. If a new definition begins here, the `}` of the `case` before it is missing.\n"
syntax_help Record = codes "Write the types of a constructor's arguments alone, and take it apart by patterns.\n"
syntax_help Update = codes "Build the value with its constructor. If local definitions follow, write `where` before `{`.\n"
syntax_help NoAlternative = codes "Write an alternative, such as `_ -> x`.\n"
syntax_help Unexpected = codes "No module can go on with this here.\n"
syntax_help (AppliedName k) = codes "Only a constructor takes arguments, and its name begins with a capital letter.\n"
syntax_help TypedPattern = codes "Write a signature of its own for a type, such as `f :: Int -> Int`. Between an element and a list, write `:`.\n"
syntax_help ConsPattern = codes "Write parentheses around a pattern with `:`, such as `f (x : xs)`.\n"
syntax_help GuardAfterEquals = codes "Write the guard before the `=`: `f x | c = y`.\n"
syntax_help (GuardArrow k) = codes "Only an alternative of a `case` has `->` after its guard.\n"
syntax_help (ConstructorComma k) = codes "Write `|` between constructors, and spaces between their arguments: `data T = A Int Int | B`.\n"
syntax_help NumberComma = codes "Write a number without commas, and a tuple between parentheses.\n"
syntax_help WhereAfterSemicolon = codes "A `where` belongs to the definition before it, so no `;` is between them.\n"
syntax_help (NoThen k) = codes "An `if` has no braces: `if c then x else y`.\n"
syntax_help (NewtypeArguments k) = codes "Write `data` for a type with more constructors or arguments.\n"
syntax_help LateQualified = codes "Write `import qualified M`.\n"
syntax_help AtSign = codes "A pattern `x@(y : ys)` is left of the `=` or the `->`.\n"
syntax_help GuardAfterSemicolon = codes "A guard belongs to what is before it, so no `;` is between them.\n"
syntax_help LateImport = codes "The imports of a module come before all its other declarations.\n"
syntax_help ExtraComma = codes "A comma is between two parts, and none follows the last one.\n"
syntax_help ElseGuard = codes "Write `otherwise`: `f x | c = y | otherwise = z`.\n"
syntax_help Hole = codes "Write `undefined` for an expression that is missing.\n"
syntax_help (EqualsInCondition k) = codes "Compare by patterns, or take the comparison as an argument.\n"
syntax_help (NoIn k) = codes "Each `let` has one: `let { .. } in x`.\n"
syntax_help (SecondWhere k) = codes "A definition or an alternative has one `where`, with all its local definitions between the braces.\n"
syntax_help BraceGroup = codes "Braces are around definitions and alternatives. Write parentheses around an expression.\n"
syntax_help (GuardEquals k) = codes "Only a definition has `=` after its guard, and an alternative of a `case` has `->`.\n"
