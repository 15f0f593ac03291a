use Rattle.std.proofs.Common.{refl}
use Rattle.std.specs.Prelude.{false}
use Rattle.hm_syntax.specs.declared.ast.Export.TheVariants as export
use Rattle.hm_syntax.specs.declared.ast.SubItems.TheVariants as subs
use Rattle.hm_uses.specs.declared.name_kind.NameKind.TheVariants.{Constructor}
use Rattle.hm_uses.specs.Mentions.{mention, mentions}
use Rattle.hm_uses_declarations.specs.Senses.{sense_of}
use Rattle.hm_uses_header.proofs.Steps.{row_none, row_more, row_all}
use Rattle.hm_uses_header.proofs.Exported.{Item, part_added}
use Rattle.hm_uses_header.proofs.exports.add_parts.Goals as goal

pub parts-init : goal.parts-init
parts-init c = row_none (Item c.args.tables.now (export.Con c.args.of.now (subs.Some c.args.parts.now))) (mention Constructor false) (mentions Constructor false) (λ x rest. refl) refl c.args.found.now.items c.args.parts.now

pub parts-preserved : goal.parts-preserved
parts-preserved c =
    row_more (Item c.args.tables.now (export.Con c.args.of.now (subs.Some c.args.parts.now))) (mention Constructor false) (mentions Constructor false) (λ x rest. refl) refl
    c.args.found.now.items c.parts.found.items c.add.new.found.items c.args.parts.now c.parts.part-index c.part-item.result c.parts-test.true c.part-item.is c.parts.invariant
    (part_added c.args.tables.now c.parts.found.items c.add.new.found.items c.args.of.now c.args.parts.now c.parts.part-index c.part-item.result (sense_of c.of_part-meaning.result) c.parts-test.true c.part-item.is c.in_ok-add.ensures c.of_part-meaning.ensures)

pub returns : goal.returns
returns c =
    row_all (Item c.args.tables.now (export.Con c.args.of.now (subs.Some c.args.parts.now))) (mention Constructor false) (mentions Constructor false) (λ x rest. refl) refl
    c.args.found.now.items c.parts.found.items c.args.parts.now c.parts.part-index c.parts-test.false c.parts.invariant
