use Rattle.std.proofs.Common.{◌∙◌, ap}
use Rattle.hm_scope_export_items.specs.ExportGroups.{grouped}
use Rattle.hm_scope_export_items.proofs.Selectors.{group_added, group_found}
use Rattle.hm_scope_export_items.proofs.export_groups.add_group.Goals as goal

pub returns-in_ok-add_copies-in-Some-clause-added : goal.returns-in_ok-add_copies-in-Some-clause-added
returns-in_ok-add_copies-in-Some-clause-added c =
    group_added c.args.out.now.items c.add_copies.new.out.items _ _ (c.in_ok-add_copies-in-Some.ensures) (c.deref.ensures.value ∙ ap grouped c.in-Some.ensures.value)

pub returns-in_ok-add_copies-in-Some-clause-some : goal.returns-in_ok-add_copies-in-Some-clause-some
returns-in_ok-add_copies-in-Some-clause-some c = group_found _ _ _ _ c.is_empty.ensures c.deref.ensures.len (c.deref.ensures.value ∙ ap grouped c.in-Some.ensures.value)
