use Rattle.std.proofs.Common.{◌≡◌, ◌++◌, map, take}
use Rattle.std.specs.Arc.{arc_value}
use Rattle.hm_build_earlier.proofs.reading.add_lent.Given as goal

abbrev pub invariant-loop-module : goal.invariant-loop-module
invariant-loop-module l = map arc_value l.modules.items ≡ map arc_value l.initial.modules.items ++ map arc_value (take l.module-index l.lent)
