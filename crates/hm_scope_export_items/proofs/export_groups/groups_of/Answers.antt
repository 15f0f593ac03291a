use Rattle.hm_scope_export_items.proofs.export_groups.groups_of.Goals as goal

pub returns : goal.returns
returns c = λ scope. c.in_ok-groups_with.ensures _ _ scope c.in_ok-bare.ensures c.in_ok-owners.ensures
