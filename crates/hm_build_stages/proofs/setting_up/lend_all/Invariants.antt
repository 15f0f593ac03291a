use Rattle.std.proofs.Common.{◌≡◌, map, take}
use Rattle.std.specs.Arc.{arc_value}
use Rattle.hm_build_stages.proofs.setting_up.lend_all.Given as goal

abbrev pub invariant-loop-module : goal.invariant-loop-module
invariant-loop-module l = map arc_value l.lent.items ≡ map arc_value (take l.module-index l.modules)
