-- Where a module declares a name (Report 4.2, 4.4.3).
use Rattle.std.specs.Prelude.{◌≡◌, ℕ, List, Option, None, Some, Contains}
use Rattle.hm_lex.specs.declared.token.Place.{Place}
use Rattle.hm_syntax.specs.declared.ast.Module.{Module}
use Rattle.hm_names.specs.declared.namespace.Namespace.{Namespace}
use Rattle.hm_names.specs.declared.namespace.Namespace.TheVariants.{Types, Constructors, Values}
use Rattle.hm_uses_symbols.specs.Symbols.{SymbolOf, symbols_of}
use Rattle.hm_uses_symbols.specs.declared.symbol.SymbolKind.{SymbolKind}
use Rattle.hm_uses_symbols.specs.declared.symbol.SymbolKind.TheVariants as symbol

-- the namespace of what a module declares. Its own name is in none
abbrev pub space_of_symbol : SymbolKind → Option Namespace
space_of_symbol symbol.Module = None
space_of_symbol symbol.DataType = Some Types
space_of_symbol symbol.Synonym = Some Types
space_of_symbol symbol.Constructor = Some Constructors
space_of_symbol symbol.Variable = Some Values

-- the module declares the name x at this place, at its top level
pub record IsDeclaredAt (m : Module) (s : Namespace) (x : List ℕ) (p : Place) : Type 0 where
  pub symbol : SymbolOf
  pub among : Contains (symbols_of m) symbol
  pub space_is : space_of_symbol symbol.kind ≡ Some s
  pub named : symbol.name.text ≡ x
  pub place_is : p ≡ record { line = symbol.name.line; column = symbol.name.column }
