use Rattle.std.proofs.Common.{◌≡◌, ◌++◌, map, drop}
use Rattle.std.specs.Arc.{arc_value}
use Rattle.hm_names.specs.Cores.{imported_schemes}
use Rattle.hm_infer_context.specs.Kept.{schemes_of}
use Rattle.hm_infer.proofs.declaring.add_imported.Given as goal

abbrev pub invariant-interfaces : goal.invariant-interfaces
invariant-interfaces l = schemes_of l.entries.items ++ imported_schemes (map arc_value (drop l.interface-index l.interfaces)) ≡ schemes_of l.initial.entries.items ++ imported_schemes (map arc_value l.interfaces)
