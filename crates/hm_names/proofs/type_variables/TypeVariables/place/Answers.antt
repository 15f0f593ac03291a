use Rattle.std.proofs.Common.{◌≡◌, ap, sym, ◌∙◌, None}
use Rattle.std.proofs.lemmas.List.{length-map}
use Rattle.hm_names.specs.Types.{place}
use Rattle.hm_names.specs.TypeVariables.{place_in}
use Rattle.hm_names.proofs.TypePlaces.{place_missing}
use Rattle.hm_names.proofs.type_variables.TypeVariables.place.Goals as goal

pub returns-in-None : goal.returns-in-None
returns-in-None c =
    let missing : place_in c.self.inside.first c.args.text.now ≡ None = sym c.in-None.ensures.value in
    let there = place_missing _ c.args.text.now c.self.inside.first c.self.invariant missing in
    c.len.ensures ∙ (c.self.inside.texts.ok.0 ∙ (sym (length-map c.self.inside.texts.items (λ k. k.now)) ∙ (sym there ∙ ap (place c.args.text.now) c.self.view_is)))
