use Rattle.std.proofs.Common.{◌∙◌, ◌++◌, ◌∷◌, [], ap}
use Rattle.hm_uses_declarations.proofs.Tables.{first_binding}
use Rattle.hm_uses_declarations.proofs.locals.add_binding.Goals as goal

pub returns : goal.returns
returns c = λ x. first_binding c.args.table.now c.get_mut.follows.lender-at-none c.insert.new.self c.args.text x c.push-2.new.self c.args.binding c.get_mut.follows.holds-at-none c.in_default.ensures.value
    (c.in_ok-push-2.ensures.items ∙ ap (λ l. l ++ c.args.binding ∷ []) c.new-bindings.ensures.items) (c.in_ok-insert.ensures.updates.0 x)
