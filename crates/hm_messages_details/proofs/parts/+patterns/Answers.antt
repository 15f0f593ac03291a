use Rattle.std.proofs.Common.{◌+◌, ap, drop, map}
use Rattle.hm_syntax.specs.Lists.{patterns}
use Rattle.hm_names.proofs.Rows.{past, unrolled}
use Rattle.hm_messages_details.specs.Parts.{part_of, pattern_parts, patterns_parts}
use Rattle.hm_messages_details.proofs.PartLists.{row_end, row_more}
use Rattle.hm_messages_details.proofs.parts.+patterns.Goals as goal

pub add_patterns-row-preserved : goal.add_patterns-row-preserved
add_patterns-row-preserved t c =
    let row = c.args.row.now in
    let i = c.row.pat-index in
    row_more (map part_of c.row.out.items) (map part_of c.add_pattern.new.out.items) (pattern_parts c.pat-item.result) (patterns_parts (patterns (drop (i + 1) row))) (patterns_parts (patterns (drop i row))) _
    (ap (λ l. patterns_parts (patterns l)) (unrolled row i c.pat-item.result c.row-test.true c.pat-item.is)) c.row.invariant c.in_ok-add_pattern.ensures

pub add_patterns-returns : goal.add_patterns-returns
add_patterns-returns t c = row_end (map part_of c.row.out.items) _ _ (ap (λ l. patterns_parts (patterns l)) (past c.args.row.now c.row.pat-index c.row-test.false)) c.row.invariant
