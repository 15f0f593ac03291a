-- Worked examples: what a module declares at its top level.
use Rattle.std.specs.Prelude.{◌≡◌, ℕ, List, [], ◌∷◌, codes}
use Rattle.hm_names.specs.Worked.{at, a_module, is, one, pair_of, x}
use Rattle.hm_syntax.specs.Trees.{data_declaration, data_constructor, synonym_declaration, signature, clause, pattern_binding, variable_pattern, wildcard_pattern, variable_expression, more_constructors, no_constructors, no_types, unit_type, more_patterns, no_patterns}
use Rattle.hm_syntax.specs.declared.ast.Module.{Module}
use Rattle.hm_uses_symbols.specs.Symbols.{symbol, symbols_of}
use Rattle.hm_uses_symbols.specs.declared.symbol.SymbolKind.TheVariants.{Module as ModuleName, DataType, Synonym, Constructor, Variable}

abbrev pub f : List ℕ
f = codes "f"

-- module A where { f :: () ; f x = x ; f _ = x }: a function stands once, at its first clause. Its signature and its parameter aren't symbols
abbrev pub two_clauses : Module
two_clauses = a_module (signature (at 18 f ∷ []) unit_type
    ∷ clause (at 28 f) (more_patterns (variable_pattern (at 30 x)) no_patterns) (is (variable_expression (at 34 x)))
    ∷ clause (at 38 f) (more_patterns wildcard_pattern no_patterns) (is (variable_expression (at 44 x))) ∷ [])

pub record ClausesRow : Type 0 where
  pub first : symbols_of two_clauses ≡ symbol ModuleName (at 0 (codes "A")) ∷ symbol Variable (at 28 f) ∷ []
  pub not_each : ¬ (symbols_of two_clauses ≡ symbol ModuleName (at 0 (codes "A")) ∷ symbol Variable (at 28 f) ∷ symbol Variable (at 38 f) ∷ [])

-- module A where { data T = T | U ; type S = () ; (x, y) = 1 }: a type and its constructor have one name, and are two symbols
abbrev pub of_each_kind : Module
of_each_kind = a_module (data_declaration (at 23 (codes "T")) [] (more_constructors (data_constructor (at 27 (codes "T")) no_types) (more_constructors (data_constructor (at 31 (codes "U")) no_types) no_constructors))
    ∷ synonym_declaration (at 40 (codes "S")) [] unit_type
    ∷ pattern_binding 1 49 (pair_of (at 50 x) (at 53 (codes "y"))) one ∷ [])

pub record KindsRow : Type 0 where
  pub all : symbols_of of_each_kind ≡ symbol ModuleName (at 0 (codes "A")) ∷ symbol DataType (at 23 (codes "T")) ∷ symbol Constructor (at 27 (codes "T")) ∷ symbol Constructor (at 31 (codes "U"))
      ∷ symbol Synonym (at 40 (codes "S")) ∷ symbol Variable (at 50 x) ∷ symbol Variable (at 53 (codes "y")) ∷ []

-- module A where { data T = T ; type T = () }: declared twice, the name is one symbol
abbrev pub twice : Module
twice = a_module (data_declaration (at 23 (codes "T")) [] (more_constructors (data_constructor (at 27 (codes "T")) no_types) no_constructors) ∷ synonym_declaration (at 36 (codes "T")) [] unit_type ∷ [])

pub record TwiceRow : Type 0 where
  pub first : symbols_of twice ≡ symbol ModuleName (at 0 (codes "A")) ∷ symbol DataType (at 23 (codes "T")) ∷ symbol Constructor (at 27 (codes "T")) ∷ []
