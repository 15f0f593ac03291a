use Rattle.std.proofs.Common.{◌≡◌, ◌<◌, IfSome, List, ℕ, get_or, length, string_bytes, subst}
use Rattle.hm_run_sources.specs.declared.status.Status.{Status}
use Rattle.hm_service_messages.specs.Spots.{HasBoundLine}
use Rattle.hm_service_places.specs.Places.{IsAskedAt}
use Rattle.hm_service_places.proofs.places.place_of.Goals as goal

pub returns-in_ok-bound-in-Good-clause-some : goal.returns-in_ok-bound-in-Good-clause-some
returns-in_ok-bound-in-Good-clause-some g c =
    let k = c.args.checked.now in
    let index = c.in-Some.index in
    let text = string_bytes c.in_ok-answer.answer.text in
    let at = subst (λ (l : List ℕ). (index < length l) × (get_or l index 0 ≡ c.args.source)) c.as_slice.ensures.value c.in-Some.ensures.some in
    record {
      index = index;
      at = record { within = at.0; is = at.1 };
      asked = subst (λ (s : Status). IsAskedAt k index c.args.line c.args.column s text) c.in-Good.is c.in_ok-answer.ensures;
      bound = subst (λ (l : List ℕ). IfSome c.in_ok-bound-in-Good.bound (λ b. HasBoundLine b l)) c.as_str.ensures.value c.in_ok-bound-in-Good.ensures;
    }
