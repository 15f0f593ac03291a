use Rattle.hm_syntax.specs.declared.ast.Export.TheVariants as export
use Rattle.hm_syntax.specs.declared.ast.SubItems.TheVariants as subs
use Rattle.hm_uses_header.proofs.Steps.{adds_nothing}
use Rattle.hm_uses_header.proofs.Exported.{Item}
use Rattle.hm_uses_header.proofs.exports.add_subs.Goals as goal

pub returns-in-None : goal.returns-in-None
returns-in-None c = rw c.in-None.is (adds_nothing (Item c.args.tables.now (export.Con c.args.of.now subs.None)) c.args.found.now.items)

pub returns-in-All : goal.returns-in-All
returns-in-All c = rw c.in-All.is (adds_nothing (Item c.args.tables.now (export.Con c.args.of.now subs.All)) c.args.found.now.items)

pub returns-in_ok-add_parts-in-Some : goal.returns-in_ok-add_parts-in-Some
returns-in_ok-add_parts-in-Some c = rw c.in-Some.is (rw c.as_slice.ensures at c.in_ok-add_parts-in-Some.ensures)
