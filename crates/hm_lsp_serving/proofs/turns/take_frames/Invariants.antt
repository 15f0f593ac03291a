use Rattle.std.proofs.Common.{List, map, take}
use Rattle.serde_json.specs.Data.{Data}
use Rattle.hm_lsp_frames.specs.Pending.{item_of}
use Rattle.hm_lsp_server.specs.Servers.{IsOrderly}
use Rattle.hm_lsp_session.specs.Cancelled.{cancels_of}
use Rattle.hm_lsp_serving.specs.Turns.{AreTaken, AreWritten}
use Rattle.hm_lsp_serving.proofs.turns.take_frames.Given as goal

abbrev pub invariant-frames : goal.invariant-frames
invariant-frames g l =
    IsOrderly l.serving.server × ((sent : List Data)
    × (AreTaken (cancels_of l.cancelled) (map item_of (take l.frame-index l.frames)) l.initial.serving.server l.serving.server sent × AreWritten (g.W.Write.contents l.initial.writer) (g.W.Write.contents l.writer) sent))
