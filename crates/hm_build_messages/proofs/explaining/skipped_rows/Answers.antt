use Rattle.std.proofs.Common.{rules}
use Rattle.hm_build_messages.proofs.Told.{skipped_more}
use Rattle.hm_build_messages.proofs.explaining.skipped_rows.Goals as goal

pub loop-row-preserved : goal.loop-row-preserved
loop-row-preserved c =
    skipped_more c.args.settled.now c.args.rows.now c.loop-row.row-index _ c.index-settled-row.result c.loop-row.kept.items c.add_skipped.new.kept.items (search rules)
    (c.requires c.loop-row.row-index _ c.loop-row-test.true) (search rules) c.loop-row.invariant c.in_ok-add_skipped.ensures
