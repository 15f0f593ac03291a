-- Expressions, patterns and binding lists with resolved names (Report 3 and 4.4). A constructor has its declared type; all variables of the type are
-- quantified.
use Rattle.hm_types.specs.declared.Head.TheVariants as head
use Rattle.std.specs.Prelude.{ℕ, suc, codes, List, [], ◌∷◌, ◌++◌}
use Rattle.hm_types.specs.Types.{App, done, more}
use Rattle.hm_typing.specs.Names.{Identifier}
use Rattle.hm_typing.specs.Schemes.{Monotype}

pub data LiteralKind : Type 0 where
  Integer : LiteralKind
  Character : LiteralKind
  Text : LiteralKind

-- Report 3.17
mutual
  pub data Pattern : Type 0 where
    VariablePattern : Identifier → Pattern
    AsPattern : Identifier → Pattern → Pattern
    ConstructorPattern : Monotype → Patterns → Pattern
    LiteralPattern : LiteralKind → Pattern
    WildcardPattern : Pattern
    TuplePattern : Patterns → Pattern
    ListPattern : Patterns → Pattern
    LazyPattern : Pattern → Pattern

  pub data Patterns : Type 0 where
    no_pattern : Patterns
    pattern : Pattern → Patterns → Patterns

-- a declared type is the written one, with all its variables quantified
mutual
  pub data Expression : Type 0 where
    Variable : Identifier → Expression
    Constructor : Monotype → Expression
    Literal : LiteralKind → Expression
    Apply : Expression → Expression → Expression
    Lambda : Patterns → Expression → Expression
    Let : Bindings → Expression → Expression
    If : Expression → Expression → Expression → Expression
    Case : Expression → Clauses → Expression
    Tuple : Expressions → Expression
    Listing : Expressions → Expression
    Typed : Expression → Monotype → Expression

  pub data Expressions : Type 0 where
    no_expression : Expressions
    expression : Expression → Expressions → Expressions

  -- a clause: patterns, right sides, and the bindings of its where (Report 4.4.3.1). An alternative of a case is a clause of one pattern
  -- (Report 3.13)
  pub data Clauses : Type 0 where
    no_clause : Clauses
    clause : Patterns → RightSides → Bindings → Clauses → Clauses

  -- without a guard, or with one, which comes first
  pub data RightSides : Type 0 where
    no_right_side : RightSides
    plain : Expression → RightSides → RightSides
    guarded : Expression → Expression → RightSides → RightSides

  -- a binding of a name with all its clauses, without or with a signature (Report 4.4.1, 4.4.3.1). Or a pattern binding (Report 4.4.3.2):
  -- a name for the whole binding, which has the type of its pattern; the pattern; and its right sides with their where, as a clause without patterns
  pub data Bindings : Type 0 where
    no_binding : Bindings
    unsigned : Identifier → Clauses → Bindings → Bindings
    signed : Identifier → Monotype → Clauses → Bindings → Bindings
    matched : Identifier → Pattern → Clauses → Bindings → Bindings

-- a type of Prelude without arguments
abbrev pub prelude_type : List ℕ → Monotype
prelude_type name = App (head.Named (record { «module» = codes "Prelude"; name = name })) done

abbrev pub bool : Monotype
bool = prelude_type (codes "Bool")

-- an integer literal has the type Int, instead of the overloaded type of Report 3.2
abbrev pub literal_type : LiteralKind → Monotype
literal_type Integer = prelude_type (codes "Int")
literal_type Character = prelude_type (codes "Char")
literal_type Text = App head.List (more (prelude_type (codes "Char")) done)

-- the variables that patterns bind, and the names that a list binds
abbrev mutual
  pub pattern_names : Pattern → List Identifier
  pattern_names (VariablePattern x) = x ∷ []
  pattern_names (AsPattern x p) = x ∷ pattern_names p
  pattern_names (ConstructorPattern s ps) = patterns_names ps
  pattern_names (LiteralPattern l) = []
  pattern_names WildcardPattern = []
  pattern_names (TuplePattern ps) = patterns_names ps
  pattern_names (ListPattern ps) = patterns_names ps
  pattern_names (LazyPattern p) = pattern_names p

  pub patterns_names : Patterns → List Identifier
  patterns_names no_pattern = []
  patterns_names (pattern p ps) = pattern_names p ++ patterns_names ps

-- the names of a pattern binding: the variables of its pattern, and then its own name. So a unit is named after a variable if it has one
abbrev pub matched_names : Identifier → Pattern → List Identifier
matched_names k p = pattern_names p ++ (k ∷ [])

abbrev pub names : Bindings → List Identifier
names no_binding = []
names (unsigned x cs ds) = x ∷ names ds
names (signed x s cs ds) = x ∷ names ds
names (matched k p cs ds) = matched_names k p ++ names ds

abbrev pub pattern_count : Patterns → ℕ
pattern_count no_pattern = 0
pattern_count (pattern p ps) = suc (pattern_count ps)

abbrev pub expression_count : Expressions → ℕ
expression_count no_expression = 0
expression_count (expression e es) = suc (expression_count es)
