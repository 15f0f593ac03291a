use Rattle.std.proofs.Common.{refl, Some, None, sym, ap, ◌∙◌, cond}
use Rattle.hm_names_keys.specs.Keys.{number_of, same_variable, variable_of_key}
use Rattle.hm_names_keys.proofs.SameVariables.{updated}
use Rattle.hm_infer_context.proofs.environment.restore.Goals as goal

pub returns-in_default : goal.returns-in_default
returns-in_default c = λ placed x.
    updated c.args.places.now c.swap_remove.new.self c.args.name (variable_of_key c.args.name) None refl c.swap_remove.ensures.updates.0 x
    ∙ ap (λ h. cond (same_variable (variable_of_key c.args.name) x) h (number_of c.args.places.now x)) (sym c.in_default.is)

pub returns-in-Ok : goal.returns-in-Ok
returns-in-Ok c = λ placed x.
    updated c.args.places.now c.insert.new.self c.args.name (variable_of_key c.args.name) (Some c.in-Some.place) refl c.in-Ok.ensures.updates.0 x
    ∙ ap (λ h. cond (same_variable (variable_of_key c.args.name) x) h (number_of c.args.places.now x)) (sym c.in-Some.is)
