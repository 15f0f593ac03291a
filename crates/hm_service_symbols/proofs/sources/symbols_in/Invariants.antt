use Rattle.std.proofs.Common.{◌≡◌, map, take}
use Rattle.std.specs.Arc.{arc_value}
use Rattle.std.specs.List.{flat_map}
use Rattle.hm_uses_symbols.specs.Symbols.{symbols_of}
use Rattle.hm_service_symbols.proofs.sources.symbols_in.Given as goal

abbrev pub invariant-modules : goal.invariant-modules
invariant-modules l = l.found.items ≡ flat_map symbols_of (map arc_value (take l.module-index l.modules))
