use Rattle.std.proofs.Common.{◌≡◌, ◌++◌, drop, map}
use Rattle.std.specs.Arc.{arc_value}
use Rattle.hm_service_symbols.specs.SetSymbols.{set_symbols}
use Rattle.hm_service_symbols.proofs.set_symbols.set_symbols.Given as goal

abbrev pub invariant-part : goal.invariant-part
invariant-part l = l.found.items ++ set_symbols (drop l.index l.part) (drop l.index l.counts) (map arc_value l.rest) ≡ set_symbols l.part l.counts (map arc_value l.modules)
