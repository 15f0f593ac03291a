-- Syntax trees, without their places in memory.
use Rattle.std.specs.Prelude.{ℕ, List}
use Rattle.hm_syntax.specs.Names.{Identifier, LiteralTree}

mutual
  pub data TypeTree : Type 0 where
    variable_type : Identifier → TypeTree
    constructor_type : Identifier → TypeTrees → TypeTree
    function_type : TypeTree → TypeTree → TypeTree
    tuple_type : TypeTrees → TypeTree
    list_type : TypeTree → TypeTree
    unit_type : TypeTree

  pub data TypeTrees : Type 0 where
    no_types : TypeTrees
    more_types : TypeTree → TypeTrees → TypeTrees

-- a constructor of a data type, with the types of its arguments
pub data DataConstructor : Type 0 where
  data_constructor : Identifier → TypeTrees → DataConstructor

pub data DataConstructors : Type 0 where
  no_constructors : DataConstructors
  more_constructors : DataConstructor → DataConstructors → DataConstructors

mutual
  pub data Pattern : Type 0 where
    variable_pattern : Identifier → Pattern
    bound_pattern : Identifier → Pattern → Pattern
    constructor_pattern : Identifier → Patterns → Pattern
    literal_pattern : LiteralTree → Pattern
    wildcard_pattern : Pattern
    tuple_pattern : Patterns → Pattern
    list_pattern : Patterns → Pattern
    lazy_pattern : Pattern → Pattern

  pub data Patterns : Type 0 where
    no_patterns : Patterns
    more_patterns : Pattern → Patterns → Patterns

mutual
  pub data Expression : Type 0 where
    variable_expression : Identifier → Expression
    constructor_expression : Identifier → Expression
    literal_expression : LiteralTree → Expression
    application : Expression → Expression → Expression
    lambda : Patterns → Expression → Expression
    let_expression : Declarations → Expression → Expression
    if_expression : Expression → Expression → Expression → Expression
    case_expression : Expression → Alternatives → Expression
    tuple_expression : Expressions → Expression
    list_expression : Expressions → Expression
    typed_expression : Expression → TypeTree → Expression

  pub data Expressions : Type 0 where
    no_expressions : Expressions
    more_expressions : Expression → Expressions → Expressions

  pub data Declaration : Type 0 where
    data_declaration : Identifier → List Identifier → DataConstructors → Declaration
    newtype_declaration : Identifier → List Identifier → DataConstructor → Declaration
    synonym_declaration : Identifier → List Identifier → TypeTree → Declaration
    signature : List Identifier → TypeTree → Declaration
    clause : Identifier → Patterns → RightSide → Declaration
    -- with the line and column of its first token
    pattern_binding : ℕ → ℕ → Pattern → RightSide → Declaration

  pub data Declarations : Type 0 where
    no_declarations : Declarations
    more_declarations : Declaration → Declarations → Declarations

  pub data RightSide : Type 0 where
    right_side : Bodies → Declarations → RightSide

  -- right sides, each with its guard
  pub data Bodies : Type 0 where
    no_bodies : Bodies
    plain_body : Expression → Bodies → Bodies
    guarded_body : Expression → Expression → Bodies → Bodies

  pub data Alternative : Type 0 where
    alternative : Pattern → RightSide → Alternative

  pub data Alternatives : Type 0 where
    no_alternatives : Alternatives
    more_alternatives : Alternative → Alternatives → Alternatives
