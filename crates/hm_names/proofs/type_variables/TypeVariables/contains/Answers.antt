use Rattle.std.proofs.Common.{ap, ◌∙◌}
use Rattle.hm_names.specs.Texts.{is_text_among}
use Rattle.hm_names.proofs.TypePlaces.{place_known}
use Rattle.hm_names.proofs.type_variables.TypeVariables.contains.Goals as goal

pub returns : goal.returns
returns c = c.contains_key.ensures ∙ (place_known c.args.text.now _ c.self.inside.first c.self.invariant ∙ ap (is_text_among c.args.text.now) c.self.view_is)
