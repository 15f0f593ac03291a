use Rattle.std.proofs.Common.{◌≡◌, map, take}
use Rattle.std.specs.Arc.{arc_value}
use Rattle.hm_messages.specs.ModuleStarts.{module_start, start_of}
use Rattle.hm_build_messages.proofs.starts.starts_of.Given as goal

abbrev pub invariant-loop-number : goal.invariant-loop-number
invariant-loop-number l = record {
  named : map start_of l.starts.items ≡ map (λ m. module_start (arc_value m)) (take l.number l.modules);
  sources : map (λ s. s.source) l.starts.items ≡ take l.number l.origins;
}
