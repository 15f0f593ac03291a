use Rattle.std.proofs.Common.{map, take}
use Rattle.hm_lsp_frames.specs.Pending.{item_of}
use Rattle.hm_lsp_session.specs.Cancelled.{cancels_of}
use Rattle.hm_lsp_serving.specs.Taking.{AreNoted}
use Rattle.hm_lsp_serving.proofs.taking.noted_in.Given as goal

abbrev pub invariant-frames : goal.invariant-frames
invariant-frames l = AreNoted (map item_of (take l.frame-index l.frames)) (cancels_of l.cancelled)
