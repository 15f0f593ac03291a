use Rattle.std.proofs.Common.{◌≡◌, ◌++◌, map, take}
use Rattle.hm_uses_symbols.specs.Symbols.{symbol}
use Rattle.hm_uses_symbols.specs.declared.symbol.SymbolKind.TheVariants.{Variable}
use Rattle.hm_uses_symbols.proofs.declared.add_names.Given as goal

abbrev pub invariant-names : goal.invariant-names
invariant-names l = l.found.items ≡ l.fn.found.items ++ map (λ n. symbol Variable n.now) (take l.name-index l.names)
