use Rattle.std.proofs.Common.{◌≡◌, ◌∙◌, ◌<◌, List, ℕ, Vec, Global, [], ap, length, map, subst}
use Rattle.std.specs.Prelude.{slice_index_or}
use Rattle.hm_service_places.specs.Places.{IsIndexOf}
use Rattle.hm_service_offers.proofs.Shown.{checked_as}
use Rattle.hm_service_offers.proofs.judging.is_checked.Goals as goal

pub returns-in-Some : goal.returns-in-Some
returns-in-Some c =
    let checked = c.args.checked.now in
    let index = c.in-Some.index in
    let here = subst (λ (l : List ℕ). (index < length l) × (slice_index_or l index 0 ≡ c.args.number)) c.as_slice.ensures.value c.in-Some.ensures.some in
    let at : IsIndexOf checked c.args.number index = record { within = here.0; is = here.1 } in
    let texts = c.text_at.ensures ∙ ap (λ (l : List (Vec ℕ Global)). slice_index_or (map (λ (s : Vec ℕ Global). s.items) l) index []) c.as_slice-in-Some.ensures.value in
    checked_as c.args.held.now checked c.args.number index c.text_at.result.now c.held_text.result.now c.is_same.result at texts c.held_text.ensures c.is_same.ensures.yes c.is_same.ensures.no
