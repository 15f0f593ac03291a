use Rattle.std.proofs.Common.{◌+◌, ap, drop, map}
use Rattle.hm_syntax.specs.Lists.{types}
use Rattle.hm_names.proofs.Rows.{past, unrolled}
use Rattle.hm_messages_details.specs.Parts.{part_of, type_parts, types_parts}
use Rattle.hm_messages_details.proofs.PartLists.{row_end, row_more}
use Rattle.hm_messages_details.proofs.parts.+types.Goals as goal

pub add_types-row-preserved : goal.add_types-row-preserved
add_types-row-preserved t c =
    let row = c.args.row.now in
    let i = c.row.ty-index in
    row_more (map part_of c.row.out.items) (map part_of c.add_type.new.out.items) (type_parts c.ty-item.result) (types_parts (types (drop (i + 1) row))) (types_parts (types (drop i row))) _
    (ap (λ l. types_parts (types l)) (unrolled row i c.ty-item.result c.row-test.true c.ty-item.is)) c.row.invariant c.in_ok-add_type.ensures

pub add_types-returns : goal.add_types-returns
add_types-returns t c = row_end (map part_of c.row.out.items) _ _ (ap (λ l. types_parts (types l)) (past c.args.row.now c.row.ty-index c.row-test.false)) c.row.invariant
