-- Worked examples: the modules of sources.
use Rattle.std.specs.Prelude.{◌≡◌, [], ◌∷◌, codes, None}
use Rattle.hm_names.specs.Worked.{a_module, at, module_of}
use Rattle.hm_service_symbols.specs.SetSymbols.{set_symbols, symbol_in}
use Rattle.hm_service_symbols.specs.SourceModules.{modules_of}
use Rattle.hm_syntax.specs.declared.ast.Module.{Module}
use Rattle.hm_uses_symbols.specs.Symbols.{symbol}
use Rattle.hm_uses_symbols.specs.declared.symbol.SymbolKind.TheVariants.{Module as ModuleName}

abbrev pub first : Module
first = a_module []

abbrev pub second : Module
second = module_of (codes "B") None [] []

abbrev pub third : Module
third = module_of (codes "C") None [] []

-- sources 4 and 7 of the held set are checked. Source 4 has one module, and source 7 has two
pub record ModulesRow : Type 0 where
  pub of_first : modules_of 4 (4 ∷ 7 ∷ []) (1 ∷ 2 ∷ []) (first ∷ second ∷ third ∷ []) ≡ first ∷ []
  pub of_second : modules_of 7 (4 ∷ 7 ∷ []) (1 ∷ 2 ∷ []) (first ∷ second ∷ third ∷ []) ≡ second ∷ third ∷ []
  pub not_index : ¬ (modules_of 1 (4 ∷ 7 ∷ []) (1 ∷ 2 ∷ []) (first ∷ second ∷ third ∷ []) ≡ second ∷ third ∷ [])

-- each symbol is in the source of its module
pub record SymbolsRow : Type 0 where
  pub all : set_symbols (4 ∷ 7 ∷ []) (1 ∷ 2 ∷ []) (first ∷ second ∷ third ∷ [])
      ≡ symbol_in 4 (symbol ModuleName (at 0 (codes "A"))) ∷ symbol_in 7 (symbol ModuleName (at 0 (codes "B"))) ∷ symbol_in 7 (symbol ModuleName (at 0 (codes "C"))) ∷ []
