use Rattle.std.proofs.Common.{ap, ◌∙◌}
use Rattle.hm_types.specs.Shape.{type_of}
use Rattle.hm_types.specs.Types.{App as app}
use Rattle.hm_types.specs.Monotypes.{arguments_of}
use Rattle.hm_infer_context.proofs.parts.is_function.Goals as goal

pub returns-in-App : goal.returns-in-App
returns-in-App c =
    let ts = arguments_of c.in-App.field-1 in
    λ i. (ts, ap type_of c.in-App.is ∙ ap (λ h. app h ts) (c.is_same.ensures.0 i))
