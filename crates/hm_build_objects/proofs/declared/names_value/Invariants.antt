use Rattle.std.proofs.Common.{◌≡◌, map, take}
use Rattle.serde_json.specs.View.{view}
use Rattle.hm_build_objects.specs.Objects.{name_data}
use Rattle.hm_build_objects.proofs.declared.names_value.Given as goal

abbrev pub invariant-loop-name : goal.invariant-loop-name
invariant-loop-name l = map view l.items.items ≡ map name_data (map (λ n. n.now) (take l.name-index l.names))
