-- The names that were seen, by namespace. No public clause names these.
use Rattle.std.specs.Prelude.{◌≡◌, ℕ, Bool, List}
use Rattle.std.specs.List.{list_any}
use Rattle.hm_names.specs.Texts.{is_text_among}
use Rattle.hm_uses_symbols.specs.Symbols.{SymbolOf, is_same}
use Rattle.hm_uses_symbols.specs.declared.once.Seen.{Seen}
use Rattle.hm_uses_symbols.specs.declared.symbol.SymbolKind.{SymbolKind}
use Rattle.hm_uses_symbols.specs.declared.symbol.SymbolKind.TheVariants.{Module, DataType, Synonym, Constructor, Variable}

-- the texts that were seen in the namespace of a kind
abbrev pub texts_of : SymbolKind → Seen → List (List ℕ)
texts_of Module seen = seen.modules
texts_of DataType seen = seen.types
texts_of Synonym seen = seen.types
texts_of Constructor seen = seen.constructors
texts_of Variable seen = seen.variables

-- whether a symbol was seen
abbrev pub is_seen : SymbolOf → Seen → Bool
is_seen s seen = is_text_among s.name.text (texts_of s.kind seen)

-- these symbols were seen
abbrev pub HasSeen : List SymbolOf → Seen → Type 0
HasSeen ss seen = (s : SymbolOf) → is_seen s seen ≡ list_any (is_same s) ss
