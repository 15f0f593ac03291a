-- Words and marks of Haskell 98 that this language leaves out.
use Rattle.std.specs.Prelude.{ℕ, List, Option, None, Some, codes, if◌then◌else◌, ◌||◌}
use Rattle.std.specs.Str.{bytes_eq}
use Rattle.hm_messages_hints.specs.declared.features.Feature.{Feature}
use Rattle.hm_messages_hints.specs.declared.features.Feature.TheVariants.{Class, Instance, Deriving, Default, Do, Fixity, Context, Generator}

abbrev pub feature_of : List ℕ → Option Feature
feature_of text =
    if bytes_eq text (codes "class") then Some Class
    else (if bytes_eq text (codes "instance") then Some Instance
    else (if bytes_eq text (codes "deriving") then Some Deriving
    else (if bytes_eq text (codes "default") then Some Default
    else (if bytes_eq text (codes "do") then Some Do
    else (if bytes_eq text (codes "infix") || bytes_eq text (codes "infixl") || bytes_eq text (codes "infixr") then Some Fixity
    else (if bytes_eq text (codes "=>") then Some Context
    else (if bytes_eq text (codes "<-") then Some Generator else None)))))))

abbrev pub feature_text : Feature → List ℕ
feature_text Class = codes "classes aren't supported"
feature_text Instance = codes "instances aren't supported, because there are no classes"
feature_text Deriving = codes "'deriving' isn't supported, because there are no classes"
feature_text Default = codes "'default' is a reserved word, and isn't supported"
feature_text Do = codes "'do' isn't supported, because there is no IO and no monad"
feature_text Fixity = codes "operators can't be defined"
feature_text Context = codes "a type can't have a context, because there are no classes"
feature_text Generator = codes "'<-' isn't supported: a guard is an expression of type Bool"

abbrev pub feature_help : Feature → List ℕ
feature_help Class = codes "Pass the functions of a class as arguments.\n"
feature_help Instance = codes "Pass the functions of a class as arguments.\n"
feature_help Deriving = codes "Leave out `deriving` and the list after it.\n"
feature_help Default = codes "The last alternative of a `case` is `_ -> x`. There are no classes, so no type has a default.\n"
feature_help Do = codes "Write a `let` or a `case`, or apply functions to each other.\n"
feature_help Fixity = codes "Define a function with a name, and write it before its arguments.\n"
feature_help Context = codes "Leave out `=>` and what is before it, and pass functions as arguments.\n"
feature_help Generator = codes "Use `case`, or `map`, `filter` and `concatMap` for lists.\n"
