-- What a module declares at its top level (Haskell 98 Report, 4.2 and 4.4.3; 1.4 for namespaces).
use Rattle.std.specs.Prelude.{ℕ, ◌==◌, Bool, ◌&&◌, not, List, [], ◌∷◌, ◌++◌, map}
use Rattle.std.specs.List.{filter}
use Rattle.hm_names.specs.Entities.{constructor_list, constructor_name}
use Rattle.hm_names.specs.Texts.{same_text}
use Rattle.hm_names.specs.Variables.{pattern_variables}
use Rattle.hm_syntax.specs.Names.{Identifier}
use Rattle.hm_syntax.specs.Trees.{Declaration, data_declaration, newtype_declaration, synonym_declaration, signature, clause, pattern_binding}
use Rattle.hm_syntax.specs.declared.ast.Module.{Module}
use Rattle.hm_uses_symbols.specs.declared.symbol.SymbolKind.{SymbolKind}
use Rattle.hm_uses_symbols.specs.declared.symbol.SymbolKind.TheVariants.{Module as ModuleName, DataType, Synonym, Constructor, Variable}

-- a name that is declared, with its place, and what it names
pub record SymbolOf : Type 0 where
  pub kind : SymbolKind
  pub name : Identifier

abbrev pub symbol : SymbolKind → Identifier → SymbolOf
symbol k n = record { kind = k; name = n }

-- the names that a declaration declares, in order. A type signature declares none: a clause or a pattern does (4.4.1)
abbrev pub declared_by : Declaration → List SymbolOf
declared_by (data_declaration n ps cs) = symbol DataType n ∷ map (λ c. symbol Constructor (constructor_name c)) (constructor_list cs)
declared_by (newtype_declaration n ps c) = symbol DataType n ∷ symbol Constructor (constructor_name c) ∷ []
declared_by (synonym_declaration n ps t) = symbol Synonym n ∷ []
declared_by (signature ns t) = []
declared_by (clause n ps r) = symbol Variable n ∷ []
declared_by (pattern_binding line column p r) = map (symbol Variable) (pattern_variables p)

abbrev pub declared_by_all : List Declaration → List SymbolOf
declared_by_all [] = []
declared_by_all (d ∷ ds) = declared_by d ++ declared_by_all ds

-- the namespaces, numbered: types and synonyms share one (1.4)
abbrev pub namespace_of : SymbolKind → ℕ
namespace_of ModuleName = 0
namespace_of DataType = 1
namespace_of Synonym = 1
namespace_of Constructor = 2
namespace_of Variable = 3

abbrev pub is_same : SymbolOf → SymbolOf → Bool
is_same s t = (namespace_of s.kind == namespace_of t.kind) && same_text s.name.text t.name.text

-- each name once, where it stands first: a function at its first clause
abbrev pub each_once : List SymbolOf → List SymbolOf
each_once [] = []
each_once (s ∷ ss) = s ∷ filter (λ t. not (is_same t s)) (each_once ss)

-- the symbols of a module: its own name, and the names that it declares
abbrev pub symbols_of : Module → List SymbolOf
symbols_of m = symbol ModuleName m.header.name ∷ each_once (declared_by_all m.decls)
