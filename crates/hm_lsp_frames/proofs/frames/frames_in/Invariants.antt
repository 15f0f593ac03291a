use Rattle.std.proofs.Common.{ℕ, List, map, take}
use Rattle.std.specs.Prelude.{flat_map}
use Rattle.hm_lsp_frames.specs.Frames.{Reads}
use Rattle.hm_lsp_frames.specs.Pending.{IsPending, item_of}
use Rattle.hm_lsp_frames.proofs.frames.frames_in.Given as goal

abbrev pub invariant-loop-piece : goal.invariant-loop-piece
invariant-loop-piece l = (rest : List ℕ) × Reads (flat_map (λ p. p.items) (take l.piece-index l.pieces)) (map item_of l.taken.items) rest × IsPending l.frames rest
