use Rattle.std.proofs.Common.{map}
use Rattle.hm_build_place_texts.specs.Facts.{item_of}
use Rattle.hm_build_places.specs.Answers.{AreFirstParts, HasItems, with_column}
use Rattle.hm_build_places.specs.Views.{known_of}
use Rattle.hm_build_places.proofs.finding.all_items.Given as goal

abbrev pub invariant-modules : goal.invariant-modules
invariant-modules l = AreFirstParts (HasItems (known_of l.view) l.spot.source (with_column l.spot.line l.spot.column)) l.number (map item_of l.items.items)
