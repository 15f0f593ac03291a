use Rattle.std.proofs.Common.{◌≡◌, ◌++◌, map}
use Rattle.hm_service_symbols.specs.SetSymbols.{symbol_in}
use Rattle.hm_service_symbols.proofs.set_symbols.add_source.Given as goal

abbrev pub invariant-symbols : goal.invariant-symbols
invariant-symbols l = l.found.items ≡ l.initial.found.items ++ map (symbol_in l.source) l.yielded
