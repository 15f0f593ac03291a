use Rattle.std.proofs.Common.{◌≡◌, List, ℕ, Vec, Global, map, string_bytes, subst}
use Rattle.hm_build_place_texts.specs.declared.texts.PlaceFormat.TheVariants.{Prose}
use Rattle.hm_build_places.specs.Answers.{IsPlaceAnswer}
use Rattle.hm_build_places.specs.Views.{known_in}
use Rattle.hm_run_sources.specs.ModuleCounts.{AreOrigins}
use Rattle.hm_service_places.specs.Names.{names_of}
use Rattle.hm_service_places.proofs.places.answer_at.Goals as goal

pub returns : goal.returns
returns g c =
    let a = c.in_ok-answer.answer in
    let k = c.args.checked.now in
    let told = c.in_ok-answer.ensures in
    let part : map (λ n. n.items) c.in_ok-names.names.items ≡ names_of k.part.items = subst (λ (l : List ℕ). map (λ n. n.items) c.in_ok-names.names.items ≡ names_of l) c.as_slice.ensures.value c.in_ok-names.ensures in (
      told.0,
      (
        subst (λ (l : List ℕ). AreOrigins l told.0) c.as_slice-counts.ensures.value told.1.0,
        subst (λ (ts : List (Vec ℕ Global)). IsPlaceAnswer (known_in k.build.store (names_of k.part.items) (map (λ s. s.items) ts) told.0) Prose c.args.index c.args.line c.args.column a.status (string_bytes a.text)) c.as_slice-texts.ensures.value
            (subst (λ (ns : List (List ℕ)). IsPlaceAnswer (known_in k.build.store ns (map (λ s. s.items) c.as_slice-texts.result.now) told.0) Prose c.args.index c.args.line c.args.column a.status (string_bytes a.text)) part told.1.1),
      ),
    )
