use Rattle.std.proofs.Common.{◌≡◌, ◌++◌, map, take}
use Rattle.hm_names.specs.Entities.{constructor_name}
use Rattle.hm_uses_symbols.specs.Symbols.{symbol}
use Rattle.hm_uses_symbols.specs.declared.symbol.SymbolKind.TheVariants.{Constructor}
use Rattle.hm_uses_symbols.proofs.declared.add_constructors.Given as goal

abbrev pub invariant-row : goal.invariant-row
invariant-row l = l.found.items ≡ l.fn.found.items ++ map (λ c. symbol Constructor (constructor_name c)) (take l.constr-index l.row)
