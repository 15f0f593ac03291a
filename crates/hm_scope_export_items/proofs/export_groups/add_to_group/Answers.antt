use Rattle.std.proofs.Common.{◌∙◌, ◌++◌, ◌∷◌, [], ap}
use Rattle.hm_scope_export_items.proofs.Selectors.{first_of_group}
use Rattle.hm_scope_export_items.proofs.export_groups.add_to_group.Goals as goal

pub returns : goal.returns
returns c = λ k. first_of_group c.args.groups.now c.get_mut.follows.lender-at-none c.insert.new.self c.args.selector k c.push-2.new.self c.args.binding c.get_mut.follows.holds-at-none c.in_default.ensures.value
    (c.in_ok-push-2.ensures.items ∙ ap (λ l. l ++ c.args.binding ∷ []) c.new-group.ensures.items) (c.in_ok-insert.ensures.updates.0 k)
