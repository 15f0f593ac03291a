-- The rows of the trees, as lists.
use Rattle.std.specs.Prelude.{List, [], ◌∷◌, Option, None, Some}
use Rattle.hm_syntax.specs.Trees.{TypeTree, TypeTrees, no_types, more_types, DataConstructor, DataConstructors, no_constructors, more_constructors, Pattern, Patterns, no_patterns, more_patterns, Expression, Expressions, no_expressions, more_expressions, Declaration, Declarations, no_declarations, more_declarations, Bodies, no_bodies, plain_body, guarded_body, Alternative, Alternatives, no_alternatives, more_alternatives}

abbrev pub types : List TypeTree → TypeTrees
types [] = no_types
types (t ∷ ts) = more_types t (types ts)

abbrev pub patterns : List Pattern → Patterns
patterns [] = no_patterns
patterns (p ∷ ps) = more_patterns p (patterns ps)

abbrev pub expressions : List Expression → Expressions
expressions [] = no_expressions
expressions (e ∷ es) = more_expressions e (expressions es)

abbrev pub declarations : List Declaration → Declarations
declarations [] = no_declarations
declarations (d ∷ ds) = more_declarations d (declarations ds)

abbrev pub alternatives : List Alternative → Alternatives
alternatives [] = no_alternatives
alternatives (a ∷ rest) = more_alternatives a (alternatives rest)

abbrev pub body : Option Expression → Expression → Bodies → Bodies
body None e gs = plain_body e gs
body (Some g) e gs = guarded_body g e gs

abbrev pub bodies : List (Option Expression × Expression) → Bodies
bodies [] = no_bodies
bodies (p ∷ ps) = body p.0 p.1 (bodies ps)

abbrev pub constructors : List DataConstructor → DataConstructors
constructors [] = no_constructors
constructors (c ∷ cs) = more_constructors c (constructors cs)
