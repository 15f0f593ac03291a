use Rattle.std.proofs.Common.{◌≡◌, map, take}
use Rattle.serde_json.specs.View.{view}
use Rattle.hm_build_objects.specs.Objects.{declared_types}
use Rattle.hm_build_objects.proofs.declared.types_value.Given as goal

abbrev pub invariant-loop-decl : goal.invariant-loop-decl
invariant-loop-decl l = map view l.items.items ≡ declared_types (take l.decl-index l.decls)
