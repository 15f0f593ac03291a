-- Symbols (Language Server Protocol 3.17, "Document Symbols Request", "Workspace Symbols Request").
use Rattle.std.specs.Prelude.{◌≡◌, ℕ, List, codes, length}
use Rattle.serde_json.specs.Data.{Data, member, no_members, number, object, string, unsigned}
use Rattle.hm_lsp_positions.specs.declared.positions.Position.{Position}
use Rattle.hm_lsp_positions.specs.declared.units.Encoding.{Encoding}
use Rattle.hm_lsp_values.specs.Spans.{IsSpan, span_data}
use Rattle.hm_uses_symbols.specs.Symbols.{SymbolOf}
use Rattle.hm_uses_symbols.specs.declared.symbol.SymbolKind.{SymbolKind}
use Rattle.hm_uses_symbols.specs.declared.symbol.SymbolKind.TheVariants.{Module, DataType, Synonym, Constructor, Variable}

-- a module is 2, a type is an enumeration, 10, with its constructors as members, 22, and a variable is a function, 12. A synonym is a type parameter, 26,
-- because the protocol has no kind of its own for it
abbrev pub symbol_kind : SymbolKind → ℕ
symbol_kind Module = 2
symbol_kind DataType = 10
symbol_kind Synonym = 26
symbol_kind Constructor = 22
symbol_kind Variable = 12

-- a symbol with its range
abbrev pub symbol_data : SymbolOf → Data → Data
symbol_data s range = object (member (codes "kind") (number (unsigned (symbol_kind s.kind)))
    (member (codes "name") (string s.name.text)
    (member (codes "range") range
    (member (codes "selectionRange") range no_members))))

-- a symbol of a source with this text (`DocumentSymbol`)
pub record IsSymbol (encoding : Encoding) (text : List ℕ) (s : SymbolOf) (value : Data) : Type 0 where
  pub start : Position
  pub end : Position
  pub span : IsSpan encoding text s.name.line s.name.column (length s.name.text) start end
  pub whole : value ≡ symbol_data s (span_data start end)

-- a symbol with its range in the document with this URI
abbrev pub located_data : List ℕ → SymbolOf → Data → Data
located_data uri s range = object (member (codes "kind") (number (unsigned (symbol_kind s.kind)))
    (member (codes "location") (object (member (codes "range") range (member (codes "uri") (string uri) no_members)))
    (member (codes "name") (string s.name.text) no_members)))

-- a symbol of a source with this URI and this text (`WorkspaceSymbol`)
pub record IsLocatedSymbol (encoding : Encoding) (uri text : List ℕ) (s : SymbolOf) (value : Data) : Type 0 where
  pub start : Position
  pub end : Position
  pub span : IsSpan encoding text s.name.line s.name.column (length s.name.text) start end
  pub whole : value ≡ located_data uri s (span_data start end)
