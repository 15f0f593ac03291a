use Rattle.std.proofs.Common.{refl}
use Rattle.hm_uses.specs.Mentions.{export_mentions, exports_mentions}
use Rattle.hm_uses_header.proofs.Steps.{row_none, row_more, row_all}
use Rattle.hm_uses_header.proofs.Exported.{Listed, item_added}
use Rattle.hm_uses_header.proofs.exports.add_exports.Goals as goal

pub exports-init : goal.exports-init
exports-init c = row_none (Listed c.args.tables.now c.args.exports.now) export_mentions exports_mentions (λ x rest. refl) refl c.args.found.now.items c.args.exports.now

pub exports-preserved : goal.exports-preserved
exports-preserved c =
    row_more (Listed c.args.tables.now c.args.exports.now) export_mentions exports_mentions (λ x rest. refl) refl
    c.args.found.now.items c.exports.found.items c.add_export.new.found.items c.args.exports.now c.exports.export-index c.export-item.result c.exports-test.true c.export-item.is c.exports.invariant
    (item_added c.args.tables.now c.exports.found.items c.add_export.new.found.items c.args.exports.now c.exports.export-index c.export-item.result c.exports-test.true c.export-item.is c.in_ok-add_export.ensures)

pub returns : goal.returns
returns c =
    row_all (Listed c.args.tables.now c.args.exports.now) export_mentions exports_mentions (λ x rest. refl) refl
    c.args.found.now.items c.exports.found.items c.args.exports.now c.exports.export-index c.exports-test.false c.exports.invariant
