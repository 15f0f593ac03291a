use Rattle.hm_messages_changes.proofs.Pieces.{joined_more}
use Rattle.hm_messages_changes.proofs.edits.joined.Goals as goal

pub loop-piece-preserved : goal.loop-piece-preserved
loop-piece-preserved c =
    joined_more c.args.pieces.now c.loop-piece.piece-index _ c.loop-piece.made.items c.extend_from_slice.new.self.items c.loop-piece-test.true c.loop-piece.invariant c.in_ok-extend_from_slice.ensures.items
