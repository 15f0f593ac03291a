use Rattle.std.proofs.Common.{refl}
use Rattle.hm_lsp_session.specs.Cancelled.{cancels_of}
use Rattle.hm_lsp_serving.specs.Taking.{none}
use Rattle.hm_lsp_serving.proofs.Turning.{noted_more}
use Rattle.hm_lsp_serving.proofs.taking.noted_in.Goals as goal

pub frames-init : goal.frames-init
frames-init c = none refl c.new-cancelled.ensures

pub frames-preserved : goal.frames-preserved
frames-preserved c =
    noted_more c.args.frames.now c.frames.frame-index c.frame-item.result (cancels_of c.frames.cancelled) (cancels_of c.note.new.cancelled) c.frames-test.true c.frame-item.is c.frames.invariant c.in_ok-note.ensures
