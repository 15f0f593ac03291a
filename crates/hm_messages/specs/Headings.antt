-- The first line of a message after its file's name, and the line of counts.
use Rattle.std.specs.Prelude.{ℕ, ◌==◌, ◌&&◌, List, [], ◌∷◌, ◌++◌, Option, Some, None, codes, if◌then◌else◌}
use Rattle.std.specs.Fmt.{decimal}
use Rattle.hm_messages_excerpts.specs.Escapes.{shown}
use Rattle.hm_messages_json.specs.Objects.{counts_text}
use Rattle.hm_messages_json.specs.declared.message.Level.{Level}
use Rattle.hm_messages_json.specs.declared.message.Level.TheVariants.{Error, Note}
use Rattle.hm_messages_json.specs.declared.message.Position.{Position}
use Rattle.hm_messages_hints.specs.LexemeTexts.{lexeme_text}
use Rattle.hm_messages_hints.specs.SyntaxTexts.{syntax_text}
use Rattle.hm_lex.specs.declared.token.Place.{Place}
use Rattle.hm_messages_titles.specs.Titles.{fault_title, hidden_title}
use Rattle.hm_messages.specs.Notices.{notice_of}
use Rattle.hm_messages.specs.Cuts.{shortened}
use Rattle.hm_messages.specs.Subjects.{Subject, fault, replaceable, wrapped, too_many_arguments, too_few_arguments, mistyped, unsigned, follows, faulty, skipped, too_long, lexeme, open_comment, too_deep, syntax_fault, too_many, twice, twin, missing, cycle, exhausted, limit, step, hidden, type_variable, left_out, private, importable, unbound_type}
use Rattle.hm_messages.specs.declared.topic.Way.{Way}
use Rattle.hm_messages.specs.declared.topic.Pair.{Pair}
use Rattle.hm_messages.specs.declared.topic.Pair.TheVariants as pair
use Rattle.hm_messages.specs.declared.topic.Way.TheVariants.{Expression, Pattern, Exchange, Removal, Sides, Patterns, Brackets, ListBrackets, Argument, Semicolon, Comma, Both}
use Rattle.hm_messages.specs.declared.heading.MessageFormat.{MessageFormat}
use Rattle.hm_messages.specs.declared.heading.MessageFormat.TheVariants.{Plain, Coloured, Json}

-- a coloured word stands between two escapes, which begin with byte 27
abbrev pub begin : MessageFormat → Level → List ℕ
begin Plain Error = codes "error"
begin Plain Note = codes "note"
begin Json Error = codes "error"
begin Json Note = codes "note"
begin Coloured Error = 27 ∷ codes "[1;31merror"
begin Coloured Note = 27 ∷ codes "[1;36mnote"

abbrev pub end : MessageFormat → List ℕ
end Plain = []
end Json = []
end Coloured = 27 ∷ codes "[0m"

-- what is said of an expression that ends at this place
abbrev pub expression_title : List ℕ → Place → List ℕ
expression_title x p = codes "'" ++ x ++ codes "' has a type with another expression here (up to " ++ decimal p.line ++ codes ":" ++ decimal p.column ++ codes ")"

-- what is said of a pattern that ends at this place
abbrev pub pattern_title : List ℕ → Place → List ℕ
pattern_title x p = codes "'" ++ x ++ codes "' has a type if this pattern is '_' and its variables have every type (up to " ++ decimal p.line ++ codes ":" ++ decimal p.column ++ codes ")"

-- what is said of an expression that changes places with the one at this place
abbrev pub exchange_title : List ℕ → Place → List ℕ
exchange_title x p = codes "'" ++ x ++ codes "' has a type with this expression and the one at " ++ decimal p.line ++ codes ":" ++ decimal p.column ++ codes " exchanged"

-- what is said of an expression that ends at this place and is left out
abbrev pub removal_title : List ℕ → Place → List ℕ
removal_title x p = codes "'" ++ x ++ codes "' has a type if this is left out (up to " ++ decimal p.line ++ codes ":" ++ decimal p.column ++ codes ")"

-- what is said of a side of a `:` that changes places with the one at this place
abbrev pub sides_title : List ℕ → Place → List ℕ
sides_title x p = codes "'" ++ x ++ codes "' has a type with this side of ':' and the one at " ++ decimal p.line ++ codes ":" ++ decimal p.column ++ codes " exchanged"

-- what is said of a pattern that changes places with the one at this place
abbrev pub patterns_title : List ℕ → Place → List ℕ
patterns_title x p = codes "'" ++ x ++ codes "' has a type with this pattern and the one at " ++ decimal p.line ++ codes ":" ++ decimal p.column ++ codes " exchanged"

-- what is said of an expression that ends at this place and gets brackets
abbrev pub brackets_title : List ℕ → Place → List ℕ
brackets_title x p = codes "'" ++ x ++ codes "' has a type with brackets around this (up to " ++ decimal p.line ++ codes ":" ++ decimal p.column ++ codes ")"

-- what is said of an expression that ends at this place and gets the brackets of a list
abbrev pub list_brackets_title : List ℕ → Place → List ℕ
list_brackets_title x p = codes "'" ++ x ++ codes "' has a type with '[' and ']' around this (up to " ++ decimal p.line ++ codes ":" ++ decimal p.column ++ codes ")"

-- what is said of an expression that ends at this place and gets one more argument
abbrev pub argument_title : List ℕ → Place → List ℕ
argument_title x p = codes "'" ++ x ++ codes "' has a type with one more argument after this (up to " ++ decimal p.line ++ codes ":" ++ decimal p.column ++ codes ")"

-- what is said of an expression before which this mark is missing
abbrev pub mark_title : List ℕ → List ℕ → List ℕ
mark_title x mark = codes "'" ++ x ++ codes "' has a type with '" ++ mark ++ codes "' before this"

-- what is said of a part that ends at this place, and another one that begins at the second
abbrev pub pair_title : List ℕ → Pair → Place → Place → List ℕ
pair_title x pair.Expressions p q = codes "'" ++ x ++ codes "' has a type with other expressions both here (up to " ++ decimal p.line ++ codes ":" ++ decimal p.column ++ codes ") and at " ++ decimal q.line ++ codes ":" ++ decimal q.column
pair_title x pair.ExpressionBesidePattern p q = codes "'" ++ x ++ codes "' has a type with another expression here (up to " ++ decimal p.line ++ codes ":" ++ decimal p.column ++ codes ") if the pattern at " ++ decimal q.line ++ codes ":" ++ decimal q.column ++ codes " is '_' and its variables have every type"
pair_title x pair.PatternBesideExpression p q = codes "'" ++ x ++ codes "' has a type if this pattern is '_' and its variables have every type (up to " ++ decimal p.line ++ codes ":" ++ decimal p.column ++ codes "), with another expression at " ++ decimal q.line ++ codes ":" ++ decimal q.column
pair_title x pair.Patterns p q = codes "'" ++ x ++ codes "' has a type if this pattern (up to " ++ decimal p.line ++ codes ":" ++ decimal p.column ++ codes ") and the one at " ++ decimal q.line ++ codes ":" ++ decimal q.column ++ codes " are '_' and their variables have every type"

-- in which way a definition has a type
abbrev pub replaceable_title : List ℕ → Way → List ℕ
replaceable_title x (Expression p) = expression_title x p
replaceable_title x (Pattern p) = pattern_title x p
replaceable_title x (Exchange p) = exchange_title x p
replaceable_title x (Removal p) = removal_title x p
replaceable_title x (Sides p) = sides_title x p
replaceable_title x (Patterns p) = patterns_title x p
replaceable_title x (Brackets p) = brackets_title x p
replaceable_title x (ListBrackets p) = list_brackets_title x p
replaceable_title x (Argument p) = argument_title x p
replaceable_title x Semicolon = mark_title x (codes ";")
replaceable_title x Comma = mark_title x (codes ",")
replaceable_title x (Both w p q) = pair_title x w p q

-- what is said of an expression that ends at this place and gets this constructor
abbrev pub wrapped_title : List ℕ → List ℕ → Place → List ℕ
wrapped_title x c p = codes "'" ++ x ++ codes "' has a type with '" ++ c ++ codes "' in front of this (up to " ++ decimal p.line ++ codes ":" ++ decimal p.column ++ codes ")"

-- how many arguments a name has, and with how many a definition has a type, with a change of an expression that ends at this place
abbrev pub arguments_text : List ℕ → List ℕ → ℕ → List ℕ
arguments_text front f here = front ++ codes " arguments: '" ++ f ++ codes "' has " ++ decimal here ++ codes " here, and "

abbrev pub mended_text : List ℕ → ℕ → List ℕ → Place → List ℕ
mended_text x count back p = codes "'" ++ x ++ codes "' has a type with " ++ decimal count ++ back ++ codes " (up to " ++ decimal p.line ++ codes ":" ++ decimal p.column ++ codes ")"

-- what is said of an argument that ends at this place and is left out
abbrev pub too_many_title : List ℕ → List ℕ → ℕ → ℕ → Place → List ℕ
too_many_title x f here after p = arguments_text (codes "too many") f here ++ mended_text x after (codes ", without this") p

-- what is said of an expression that ends at this place and gets one more argument
abbrev pub too_few_title : List ℕ → List ℕ → ℕ → ℕ → Place → List ℕ
too_few_title x f here after p = arguments_text (codes "too few") f here ++ mended_text x after (codes ", one more after this") p

-- what is said of a part that ends at this place, with the type that is expected there and the one that it has
abbrev pub mistyped_title : Place → List ℕ → List ℕ → List ℕ
mistyped_title p expected actual = codes "this has type '" ++ actual ++ codes "', but '" ++ expected ++ codes "' is expected (up to " ++ decimal p.line ++ codes ":" ++ decimal p.column ++ codes ")"

-- what is said of a signature that ends at this place, with the type that its definition has without it
abbrev pub unsigned_title : List ℕ → Place → List ℕ → List ℕ
unsigned_title x p own = codes "'" ++ x ++ codes "' has type '" ++ own ++ codes "' without this signature (up to " ++ decimal p.line ++ codes ":" ++ decimal p.column ++ codes ")"

-- what is said of a signature that ends at this place, without which both definitions have types
abbrev pub follows_title : List ℕ → List ℕ → Place → List ℕ
follows_title x y p = codes "'" ++ x ++ codes "' and '" ++ y ++ codes "' have types without this signature (up to " ++ decimal p.line ++ codes ":" ++ decimal p.column ++ codes ")"

-- what is said of an import that names no module, with a near name
abbrev pub near_module_text : Option (List ℕ) → List ℕ
near_module_text None = []
near_module_text (Some y) = codes " (did you mean '" ++ y ++ codes "'?)"

abbrev pub missing_title : List ℕ → Option (List ℕ) → List ℕ
missing_title x y = codes "no module '" ++ x ++ codes "' is given" ++ near_module_text y

-- where the token is that a hint is about, its column in characters
abbrev pub token_place_text : Option Position → List ℕ
token_place_text None = []
token_place_text (Some p) = codes " at " ++ decimal p.line ++ codes ":" ++ decimal p.columns.characters

abbrev pub title : Subject → List ℕ
title (fault k x known other) = fault_title k x known other
title (replaceable x p) = replaceable_title x p
title (wrapped x c p) = wrapped_title x c p
title (too_many_arguments x f here after p) = too_many_title x f here after p
title (too_few_arguments x f here after p) = too_few_title x f here after p
title (mistyped x p expected actual infinite) = mistyped_title p expected actual
title (unsigned x p own) = unsigned_title x p own
title (follows x y p) = follows_title x y p
title (faulty x) = codes "skipped, since '" ++ x ++ codes "' has errors"
title (skipped x) = codes "skipped, since '" ++ x ++ codes "' is skipped"
title too_long = codes "the source is too long"
title (lexeme h x) = lexeme_text h x
title open_comment = codes "this comment isn't closed"
title too_deep = codes "too many open brackets"
title (syntax_fault h x other) = syntax_text h x ++ token_place_text other
title too_many = codes "too many modules"
title (twice x) = codes "the module name '" ++ x ++ codes "' is taken"
title (twin x) = codes "this module has the name '" ++ x ++ codes "' too"
title (missing x y) = missing_title x y
title (cycle x) = codes "the imports of module '" ++ x ++ codes "' lead back to it"
title (exhausted x) = codes "there is no memory to check module '" ++ x ++ codes "'"
title limit = codes "type errors after this one have no notes: the limit on trials is reached"
title (step x y) = codes "'" ++ x ++ codes "' imports '" ++ y ++ codes "'"
title (hidden k x) = hidden_title k x
title (type_variable x t) = codes "'" ++ x ++ codes "' is a type variable; a type '" ++ t ++ codes "' is in scope"
title (left_out m x) = codes "'" ++ m ++ codes "' exports '" ++ x ++ codes "', but this import doesn't bring '" ++ x ++ codes "' into scope"
title (private m x) = codes "'" ++ m ++ codes "' declares '" ++ x ++ codes "' here, but doesn't export it"
title (importable m x) = codes "'" ++ m ++ codes "' exports '" ++ x ++ codes "', but this module doesn't import '" ++ m ++ codes "'"
title (unbound_type x t) = codes "'" ++ x ++ codes "' is expected to have type '" ++ t ++ codes "'"

-- after an error stands its word, between brackets
abbrev pub tag : Level → List ℕ → List ℕ
tag Error kind = codes " [" ++ kind ++ codes "]"
tag Note kind = []

-- a long text is cut
abbrev pub heading : MessageFormat → Place → Subject → List ℕ
heading format p subject =
    codes ":" ++ decimal p.line ++ codes ":" ++ decimal p.column ++ codes ": " ++ begin format (notice_of subject).level ++ end format ++ codes ": "
    ++ shown (shortened (title subject)) ++ tag (notice_of subject).level (notice_of subject).kind ++ codes "\n"

abbrev pub further_counts : ℕ → List ℕ
further_counts n = codes ": further skipped modules: " ++ decimal n ++ codes "; they have no notes\n"

-- the line about the skipped modules that have no notes. There is none if all have notes
abbrev pub some_further : MessageFormat → ℕ → List ℕ
some_further format n = begin format Note ++ end format ++ further_counts n

abbrev pub further_text : MessageFormat → ℕ → List ℕ
further_text format n = if n == 0 then [] else some_further format n

abbrev pub some_counts : ℕ → ℕ → List ℕ
some_counts errors skips = codes "errors: " ++ decimal errors ++ codes ", skipped modules: " ++ decimal skips ++ codes "\n"

-- a reader gets no counts if nothing is wrong
abbrev pub prose_counts : ℕ → ℕ → List ℕ
prose_counts errors skips = if (errors == 0) && (skips == 0) then [] else some_counts errors skips

abbrev pub count_text : MessageFormat → ℕ → ℕ → List ℕ
count_text Plain errors skips = prose_counts errors skips
count_text Coloured errors skips = prose_counts errors skips
count_text Json errors skips = counts_text errors skips
