use Rattle.std.proofs.Common.{refl, rules}
use Rattle.hm_names_keys.specs.Variables.{variable_of}
use Rattle.hm_infer_dependencies.proofs.Walking.{Hides-shown}
use Rattle.hm_infer_dependencies.proofs.hiding.hide.Goals as goal

pub returns-in_ok-push : goal.returns-in_ok-push
returns-in_ok-push c =
    Hides-shown c.args.numbers.now (variable_of c.args.name.now) c.in-Some.number c.args.shown.now _ c.args.noted.now.items c.push.new.self.items
    c.in-Some.ensures.some (λ k e. c.in-Some.ensures.once (variable_of c.args.name.now) k c.in-Some.number e c.in-Some.ensures.some) (search rules) refl c.in_ok-push.ensures.items
