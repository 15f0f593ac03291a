-- The variables of patterns and of types, and the names that declaration lists bind (Report 3.17, 4.1.2, 4.4.3).
use Rattle.std.specs.Prelude.{ℕ, suc, List, [], ◌∷◌, ◌++◌, map}
use Rattle.hm_syntax.specs.Names.{Identifier}
use Rattle.hm_syntax.specs.Trees.{TypeTree, variable_type, constructor_type, function_type, tuple_type, list_type, unit_type, TypeTrees, no_types, more_types, DataConstructor, data_constructor, DataConstructors, no_constructors, more_constructors, Pattern, variable_pattern, bound_pattern, constructor_pattern, literal_pattern, wildcard_pattern, tuple_pattern, list_pattern, lazy_pattern, Patterns, no_patterns, more_patterns, Declarations, no_declarations, more_declarations, data_declaration, newtype_declaration, synonym_declaration, signature, clause, pattern_binding}

abbrev pub texts : List Identifier → List (List ℕ)
texts ns = map (λ n. n.text) ns

-- the variables of patterns, in order
abbrev mutual
  pub pattern_variables : Pattern → List Identifier
  pattern_variables (variable_pattern n) = n ∷ []
  pattern_variables (bound_pattern n p) = n ∷ pattern_variables p
  pattern_variables (constructor_pattern n ps) = patterns_variables ps
  pattern_variables (literal_pattern l) = []
  pattern_variables wildcard_pattern = []
  pattern_variables (tuple_pattern ps) = patterns_variables ps
  pattern_variables (list_pattern ps) = patterns_variables ps
  pattern_variables (lazy_pattern p) = pattern_variables p

  pub patterns_variables : Patterns → List Identifier
  patterns_variables no_patterns = []
  patterns_variables (more_patterns p ps) = pattern_variables p ++ patterns_variables ps

abbrev pub pattern_count : Patterns → ℕ
pattern_count no_patterns = 0
pattern_count (more_patterns p ps) = suc (pattern_count ps)

-- the variables of types, in order
abbrev mutual
  pub type_variables : TypeTree → List Identifier
  type_variables (variable_type n) = n ∷ []
  type_variables (constructor_type n ts) = types_variables ts
  type_variables (function_type a b) = type_variables a ++ type_variables b
  type_variables (tuple_type ts) = types_variables ts
  type_variables (list_type t) = type_variables t
  type_variables unit_type = []

  pub types_variables : TypeTrees → List Identifier
  types_variables no_types = []
  types_variables (more_types t ts) = type_variables t ++ types_variables ts

-- the type constructors in types, in order
abbrev mutual
  pub constructors_in : TypeTree → List Identifier
  constructors_in (variable_type n) = []
  constructors_in (constructor_type n ts) = n ∷ constructors_in_all ts
  constructors_in (function_type a b) = constructors_in a ++ constructors_in b
  constructors_in (tuple_type ts) = constructors_in_all ts
  constructors_in (list_type t) = constructors_in t
  constructors_in unit_type = []

  pub constructors_in_all : TypeTrees → List Identifier
  constructors_in_all no_types = []
  constructors_in_all (more_types t ts) = constructors_in t ++ constructors_in_all ts

abbrev pub type_count : TypeTrees → ℕ
type_count no_types = 0
type_count (more_types t ts) = suc (type_count ts)

abbrev pub constructor_variables : DataConstructor → List Identifier
constructor_variables (data_constructor n ts) = types_variables ts

abbrev pub constructors_variables : DataConstructors → List Identifier
constructors_variables no_constructors = []
constructors_variables (more_constructors c cs) = constructor_variables c ++ constructors_variables cs

-- the variables that a list binds by clauses, once for each clause
abbrev pub clause_names : Declarations → List Identifier
clause_names no_declarations = []
clause_names (more_declarations (data_declaration n ps cs) ds) = clause_names ds
clause_names (more_declarations (newtype_declaration n ps c) ds) = clause_names ds
clause_names (more_declarations (synonym_declaration n ps t) ds) = clause_names ds
clause_names (more_declarations (signature ns t) ds) = clause_names ds
clause_names (more_declarations (clause n ps r) ds) = n ∷ clause_names ds
clause_names (more_declarations (pattern_binding line column p r) ds) = clause_names ds

-- all variables that a list binds, by clauses and by patterns
abbrev pub bound_names : Declarations → List Identifier
bound_names no_declarations = []
bound_names (more_declarations (data_declaration n ps cs) ds) = bound_names ds
bound_names (more_declarations (newtype_declaration n ps c) ds) = bound_names ds
bound_names (more_declarations (synonym_declaration n ps t) ds) = bound_names ds
bound_names (more_declarations (signature ns t) ds) = bound_names ds
bound_names (more_declarations (clause n ps r) ds) = n ∷ bound_names ds
bound_names (more_declarations (pattern_binding line column p r) ds) = pattern_variables p ++ bound_names ds
