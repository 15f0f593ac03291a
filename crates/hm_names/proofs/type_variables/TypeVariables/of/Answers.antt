use Rattle.std.proofs.Common.{ap, ◌∙◌, sym}
use Rattle.std.proofs.lemmas.Simd.{map-map}
use Rattle.hm_names.specs.Variables.{texts}
use Rattle.hm_names.proofs.type_variables.TypeVariables.of.Goals as goal

pub returns : goal.returns
returns c = c.in_ok-texts.ensures ∙ (sym (map-map (λ n. n.text) (λ n. n.now) c.as_slice.result.now) ∙ ap texts c.as_slice.ensures)
