-- The symbols of the sources of a checked set.
use Rattle.std.specs.Prelude.{◌≡◌, ℕ, List}
use Rattle.std.specs.List.{flat_map}
use Rattle.hm_service_places.specs.declared.checked.Checked.{Checked}
use Rattle.hm_service_symbols.specs.SourceModules.{modules_of}
use Rattle.hm_uses_symbols.specs.Symbols.{SymbolOf, symbols_of}

-- these are the symbols of the modules of a source, in the order of its text. A source that isn't checked has none
abbrev pub AreSymbolsOf : Checked → ℕ → List SymbolOf → Type 0
AreSymbolsOf c source symbols = symbols ≡ flat_map symbols_of (modules_of source c.part.items c.build.counts.items c.build.store.modules)
