-- The symbols of documents and of the whole folder (Language Server Protocol 3.17, "Document Symbols Request", "Workspace Symbols Request").
use Rattle.std.specs.Prelude.{◌≡◌, ◌≤◌, ◌&&◌, nat_lt, ℕ, Bool, List, Some, length, slice_get}
use Rattle.std.specs.List.{filter}
use Rattle.serde_json.specs.Data.{Data, array, no_items}
use Rattle.hm_lsp_results.specs.Asked.{HasUri, Subject}
use Rattle.hm_lsp_results.specs.Matches.{is_match}
use Rattle.hm_lsp_results.specs.References.{AreValues}
use Rattle.hm_lsp_values.specs.Symbols.{IsLocatedSymbol, IsSymbol}
use Rattle.hm_service_sources.specs.declared.held.HeldSource.{HeldSource}
use Rattle.hm_service_symbols.specs.SetSymbols.{AreSymbolsIn, SymbolIn}
use Rattle.hm_service_symbols.specs.SourceSymbols.{AreSymbolsOf}
use Rattle.hm_uses_symbols.specs.Symbols.{SymbolOf}

-- the symbols of source number n, with their ranges in the text that stands for it, or none if it isn't held
pub data IsSymbolsResult (asked : Subject) (n : ℕ) (value : Data) : Type 0 where
  held : {source : HeldSource} {symbols : List SymbolOf} → slice_get asked.held n ≡ Some source → AreSymbolsOf asked.checked n symbols → AreValues (IsSymbol asked.encoding source.standing.items) symbols value → IsSymbolsResult asked n value
  not_held : length asked.held ≤ n → value ≡ array no_items → IsSymbolsResult asked n value

-- the query finds the symbol, whose source is there
abbrev pub is_found : Subject → List ℕ → SymbolIn → Bool
is_found asked query s = is_match query s.symbol.name.text && (nat_lt s.source (length asked.sources) && nat_lt s.source (length asked.held))

-- the symbol with its range in the text that stands for its source
pub record IsFound (asked : Subject) (s : SymbolIn) (value : Data) : Type 0 where
  pub uri : List ℕ
  pub source : HeldSource
  pub named : HasUri asked.sources s.source uri
  pub held : slice_get asked.held s.source ≡ Some source
  pub is : IsLocatedSymbol asked.encoding uri source.standing.items s.symbol value

-- the symbols of all sources that the query finds
pub record AreFound (asked : Subject) (query : List ℕ) (value : Data) : Type 0 where
  pub symbols : List SymbolIn
  pub all : AreSymbolsIn asked.checked symbols
  pub found : AreValues (IsFound asked) (filter (is_found asked query) symbols) value
