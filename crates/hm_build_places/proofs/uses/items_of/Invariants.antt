use Rattle.std.proofs.Common.{map, take}
use Rattle.hm_build_place_texts.specs.Facts.{item_of}
use Rattle.hm_build_places.specs.Answers.{AreParts, IsUseItem}
use Rattle.hm_build_places.specs.Views.{known_of}
use Rattle.hm_build_places.proofs.uses.items_of.Given as goal

abbrev pub invariant-uses : goal.invariant-uses
invariant-uses l = AreParts (IsUseItem (known_of l.view) l.number) (take l.one-index (map (λ u. u.now) l.uses)) (map item_of l.items.items)
