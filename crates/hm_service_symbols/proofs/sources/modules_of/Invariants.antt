use Rattle.std.proofs.Common.{◌≡◌, drop, map}
use Rattle.std.specs.Arc.{arc_value}
use Rattle.hm_service_symbols.specs.SourceModules.{modules_of}
use Rattle.hm_service_symbols.proofs.sources.modules_of.Given as goal

abbrev pub invariant-part : goal.invariant-part
invariant-part l = modules_of l.source (drop l.index l.part) (drop l.index l.counts) (map arc_value l.rest) ≡ modules_of l.source l.part l.counts (map arc_value l.modules)
