use Rattle.std.proofs.Common.{Some, ◌∙◌, sym, ap, bytes_eq}
use Rattle.std.proofs.lemmas.Map.Text.{hash_map_updates_str}
use Rattle.std.specs.Map.{update}
use Rattle.hm_names.specs.TypeVariables.{place_in}
use Rattle.hm_names.proofs.TypePlaces.{places_new, places_old}
use Rattle.hm_names.proofs.type_variables.note_place.Goals as goal

pub returns-then-contains_key : goal.returns-then-contains_key
returns-then-contains_key c xs e h = places_old xs c.args.text.now c.args.places.now h (sym c.contains_key.ensures ∙ c.if-contains_key.true)

pub returns : goal.returns
returns c xs e h =
    places_new xs c.args.text.now c.args.places.now c.insert.new.self h (sym c.contains_key.ensures ∙ c.if-contains_key.false)
    (λ x. hash_map_updates_str c.args.text.now c.args.places.now c.insert.new.self (Some c.args.place) c.in_ok-insert.ensures.updates x ∙ ap (λ n. update bytes_eq (place_in c.args.places.now) c.args.text.now (Some n) x) e)
