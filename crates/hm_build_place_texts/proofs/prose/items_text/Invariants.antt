use Rattle.std.proofs.Common.{◌≡◌, map, take, string_bytes}
use Rattle.std.specs.List.{flat_map}
use Rattle.hm_build_place_texts.specs.Facts.{item_of}
use Rattle.hm_build_place_texts.specs.Prose.{item_text}
use Rattle.hm_build_place_texts.proofs.prose.items_text.Given as goal

abbrev pub invariant-items : goal.invariant-items
invariant-items l = string_bytes l.text ≡ flat_map item_text (map item_of (take l.item-index l.items))
