use Rattle.std.proofs.Common.{rules}
use Rattle.std.proofs.lemmas.List.{get_or-map, places}
use Rattle.hm_names.proofs.TypePlaces.{places_more, places_all}
use Rattle.hm_names.proofs.type_variables.first_places.Goals as goal

pub texts-preserved : goal.texts-preserved
texts-preserved c = places_more c.args.texts.now c.texts.place _ c.texts.places c.note_place.new.places c.texts-test.true (search (rules, get_or-map, places)) c.texts.invariant c.in_ok-note_place.ensures

pub returns : goal.returns
returns c = places_all c.args.texts.now c.texts.place c.texts.places c.texts-test.false c.texts.invariant
