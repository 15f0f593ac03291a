use Rattle.hm_scope_export_items.proofs.ExportSelections.{groups_exact}
use Rattle.hm_scope_export_items.proofs.export_groups.groups_with.Goals as goal

pub returns : goal.returns
returns c = λ m fs scope bares owners. groups_exact m fs c.args.pairs.now c.args.bare.now c.new-groups.result c.add_pairs.new.groups c.new-groups.ensures.empty (c.in_ok-add_pairs.ensures _ owners) bares scope
