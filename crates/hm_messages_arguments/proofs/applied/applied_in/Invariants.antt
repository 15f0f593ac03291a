use Rattle.std.proofs.Common.{◌≡◌, ◌++◌, drop, flat_map, map}
use Rattle.hm_messages_arguments.specs.Applied.{applied_of, module_applied}
use Rattle.hm_messages_arguments.proofs.applied.applied_in.Given as goal

abbrev pub invariant-loop-module : goal.invariant-loop-module
invariant-loop-module l = map applied_of l.found.items ++ flat_map module_applied (drop l.module-index l.modules) ≡ flat_map module_applied l.modules
