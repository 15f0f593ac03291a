use Rattle.std.proofs.Common.{◌++◌, rules}
use Rattle.hm_lsp_frames.proofs.Pendings.{none_read, piece_read}
use Rattle.hm_lsp_frames.proofs.frames.frames_in.Goals as goal

pub loop-piece-init : goal.loop-piece-init
loop-piece-init c = none_read c.new-frames.result c.new-taken.result.items c.new-taken.ensures.items c.new-frames.ensures

pub loop-piece-preserved : goal.loop-piece-preserved
loop-piece-preserved c =
    let before = c.loop-piece.invariant in
    let added = c.in_ok-add.ensures.added before.0 before.2 in
    piece_read (λ p. p.items) c.args.pieces.now c.loop-piece.piece-index c.piece-item.result c.as_slice.result.now before.0 c.loop-piece.taken.items c.take_all.new.taken.items c.take_all.new.frames
    c.loop-piece-test.true (search rules) before.1 (c.in_ok-take_all.ensures (before.0 ++ c.as_slice.result.now) added)
