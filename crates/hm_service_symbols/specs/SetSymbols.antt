-- The symbols of all sources of a checked set.
use Rattle.std.specs.Prelude.{◌≡◌, ℕ, List, [], ◌∷◌, ◌++◌, drop, map, take}
use Rattle.std.specs.List.{flat_map}
use Rattle.hm_service_places.specs.declared.checked.Checked.{Checked}
use Rattle.hm_syntax.specs.declared.ast.Module.{Module}
use Rattle.hm_uses_symbols.specs.Symbols.{SymbolOf, symbols_of}

-- a symbol with the number of its source
pub record SymbolIn : Type 0 where
  pub source : ℕ
  pub symbol : SymbolOf

abbrev pub symbol_in : ℕ → SymbolOf → SymbolIn
symbol_in source s = record { source = source; symbol = s }

-- the symbols of all modules. `part` has the numbers of the sources that are checked, and each has the next modules: as many as its count
abbrev pub set_symbols : List ℕ → List ℕ → List Module → List SymbolIn
set_symbols [] counts ms = []
set_symbols (n ∷ part) [] ms = []
set_symbols (n ∷ part) (k ∷ counts) ms = map (symbol_in n) (flat_map symbols_of (take k ms)) ++ set_symbols part counts (drop k ms)

-- these are the symbols of the sources that are checked, in the order of sources and of their texts
abbrev pub AreSymbolsIn : Checked → List SymbolIn → Type 0
AreSymbolsIn c symbols = symbols ≡ set_symbols c.part.items c.build.counts.items c.build.store.modules
