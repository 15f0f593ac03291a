use Rattle.hm_scope_export_items.specs.ExportGroups.{group_of, IsOfWhole, IsOfOwner}
use Rattle.hm_names.proofs.AddedPairs.{adds_then}
use Rattle.hm_scope_export_items.proofs.export_groups.add_pair.Goals as goal

pub returns : goal.returns
returns c = λ ds table k. adds_then (group_of c.args.groups.now k) (group_of c.add_qualified.new.groups k) (group_of c.add_owned.new.groups k) (IsOfWhole c.args.bare.now c.args.pair.now k) (IsOfOwner ds c.args.pair.now k) (c.in_ok-add_qualified.ensures k) (c.in_ok-add_owned.ensures ds table k)
