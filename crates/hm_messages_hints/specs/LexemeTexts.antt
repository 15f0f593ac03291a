-- The texts of the hint at a lexical fault.
use Rattle.std.specs.Prelude.{ℕ, Bool, List, ◌++◌, codes, if◌then◌else◌, ◌||◌}
use Rattle.std.specs.Str.{bytes_eq}
use Rattle.hm_messages_hints.specs.declared.lexeme_hints.LexemeHint.{LexemeHint}
use Rattle.hm_messages_hints.specs.declared.lexeme_hints.LexemeHint.TheVariants.{ByteOrderMark, Backquote, OpenString, StringItem, Character, Fraction, ReservedName, Comment, Dashes, Operator, NotAscii, NoText, CurlyQuote}

-- the first line, with the operator that the hint is about
abbrev pub lexeme_text : LexemeHint → List ℕ → List ℕ
lexeme_text ByteOrderMark name = codes "the file begins with a byte order mark"
lexeme_text Backquote name = codes "a function between backquotes isn't supported"
lexeme_text OpenString name = codes "this string isn't closed on its line"
lexeme_text StringItem name = codes "this string has an escape or a character that isn't supported"
lexeme_text Character name = codes "this isn't a character that can be read"
lexeme_text Fraction name = codes "numbers with a fraction or an exponent aren't supported"
lexeme_text ReservedName name = codes "a qualified name can't end in a reserved word"
lexeme_text Comment name = codes "this comment isn't UTF-8"
lexeme_text Dashes name = codes "'" ++ name ++ codes "' is an operator, and begins no comment"
lexeme_text Operator name = codes "the operator '" ++ name ++ codes "' isn't supported: the only one is ':'"
lexeme_text NotAscii name = codes "a character that isn't ASCII isn't allowed here"
lexeme_text NoText name = codes "this byte isn't allowed here"
lexeme_text CurlyQuote name = codes "this curly quote isn't a quote of Haskell"

-- a comment of another language begins with this
abbrev pub begins_comment : List ℕ → Bool
begins_comment name = bytes_eq name (codes "//") || bytes_eq name (codes "/*") || bytes_eq name (codes "#")

-- the operators of Haskell that calculate
abbrev pub is_arithmetic : List ℕ → Bool
is_arithmetic name = bytes_eq name (codes "+") || bytes_eq name (codes "-") || bytes_eq name (codes "*") || bytes_eq name (codes "/") || bytes_eq name (codes "^") || bytes_eq name (codes "**")

-- those that compare by order
abbrev pub is_order : List ℕ → Bool
is_order name = bytes_eq name (codes "<") || bytes_eq name (codes ">") || bytes_eq name (codes "<=") || bytes_eq name (codes ">=")

-- those of monads
abbrev pub is_monadic : List ℕ → Bool
is_monadic name = bytes_eq name (codes ">>=") || bytes_eq name (codes ">>") || bytes_eq name (codes "=<<")

-- what to write instead of an operator
abbrev pub operator_help : List ℕ → List ℕ
operator_help name =
    if is_arithmetic name then codes "There is no arithmetic: declare a function, such as `plus :: Int -> Int -> Int ; plus = undefined`.\n" else
    (if bytes_eq name (codes "++") then codes "Write `concat [xs, ys]` for `xs ++ ys`.\n" else
    (if bytes_eq name (codes ".") then codes "Write `\\x -> f (g x)` for `f . g`.\n" else
    (if bytes_eq name (codes "$") then codes "Write parentheses: `f (g x)` for `f $ g x`.\n" else
    (if bytes_eq name (codes "&&") then codes "Write `and [x, y]` for `x && y`.\n" else
    (if bytes_eq name (codes "||") then codes "Write `or [x, y]` for `x || y`.\n" else
    (if bytes_eq name (codes "==") || bytes_eq name (codes "/=") then codes "Compare by patterns, such as `f 0 = ..`, or take the comparison as an argument.\n" else
    (if is_order name then codes "Numbers and characters can't be compared by order: use patterns.\n" else
    (if bytes_eq name (codes "!!") then codes "Write `head (drop n xs)` for `xs !! n`.\n" else
    (if bytes_eq name (codes "$!") then codes "Write `seq x (f x)` for `f $! x`.\n" else
    (if bytes_eq name (codes "!") then codes "Write `not x` for `!x`. Leave it out before an argument of a constructor: no argument is strict.\n" else
    (if is_monadic name then codes "There is no IO and no monad.\n" else
    (if begins_comment name then codes "A comment begins with `--`.\n" else
    codes "Define a function with a name, and write it before its arguments.\n"))))))))))))

-- the second line
abbrev pub lexeme_help : LexemeHint → List ℕ → List ℕ
lexeme_help ByteOrderMark name = codes "Save it as UTF-8 without one.\n"
lexeme_help Backquote name = codes "Write it before its arguments: `f x y`.\n"
lexeme_help OpenString name = codes "Write `\"` at its end.\n"
lexeme_help StringItem name = codes "Write `\\\\` for a backslash, and other characters by their numbers, such as `\\955`. Save the file as UTF-8.\n"
lexeme_help Character name = codes "Write one character between single quotes, or its number, such as `'\\955'`. A string is between double quotes.\n"
lexeme_help Fraction name = codes "All numbers are of type Int.\n"
lexeme_help ReservedName name = codes "A name with a dot is one name; there is no operator `.`.\n"
lexeme_help Comment name = codes "Save the file as UTF-8.\n"
lexeme_help Dashes name = codes "Write a space after the dashes.\n"
lexeme_help Operator name = operator_help name
lexeme_help NotAscii name = codes "Outside comments, characters and strings a source is ASCII.\n"
lexeme_help NoText name = codes "Outside comments, characters and strings a source is ASCII.\n"
lexeme_help CurlyQuote name = codes "Write straight quotes: `\"` around a string, and `'` around a character.\n"
