use Rattle.hm_uses_header.proofs.Exported.{list_added}
use Rattle.hm_uses_header.proofs.module_uses.add_export_list.Goals as goal

pub returns : goal.returns
returns c = list_added c.args.tables.now c.args.found.now.items c.add_exports.new.found.items c.args.header.now c.in-Some.exports c.in-Some.is (rw c.as_slice.ensures at c.in_ok-add_exports.ensures)
