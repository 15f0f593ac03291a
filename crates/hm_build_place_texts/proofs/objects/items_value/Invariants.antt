use Rattle.std.proofs.Common.{◌≡◌, map, take}
use Rattle.serde_json.specs.View.{view}
use Rattle.hm_build_place_texts.specs.Facts.{item_of}
use Rattle.hm_build_place_texts.specs.Objects.{item_data}
use Rattle.hm_build_place_texts.proofs.objects.items_value.Given as goal

abbrev pub invariant-items : goal.invariant-items
invariant-items l = map view l.values.items ≡ map item_data (map item_of (take l.item-index l.items))
