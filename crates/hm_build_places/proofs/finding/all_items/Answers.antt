use Rattle.std.proofs.Common.{rules, ◌≡◌, ◌∙◌, ◌++◌, ap, map}
use Rattle.std.proofs.lemmas.List.{map-append}
use Rattle.hm_build_place_texts.specs.Facts.{item_of}
use Rattle.hm_build_places.specs.Answers.{HasItems, with_column}
use Rattle.hm_build_places.specs.Views.{known_of}
use Rattle.hm_build_places.proofs.Parts.{first_more}
use Rattle.hm_build_places.proofs.finding.all_items.Goals as goal

pub modules-preserved : goal.modules-preserved
modules-preserved c =
    let spot = c.args.spot in
    let old = c.modules.items.items in
    let last = c.in_ok-next.next.items in
    let joined : c.append.new.self.items ≡ old ++ last = search rules in
    first_more (HasItems (known_of c.args.view.now) spot.source (with_column spot.line spot.column)) c.modules.number (map item_of old) (map item_of last) (map item_of c.append.new.self.items) c.modules.invariant c.in_ok-next.ensures
    (ap (map item_of) joined ∙ map-append item_of old last)
