use Rattle.std.proofs.Common.{ℕ, List}
use Rattle.hm_lsp_frames.specs.Pending.{IsPending, weight}
use Rattle.hm_lsp_frames.proofs.Pendings.{HasTaken}
use Rattle.hm_lsp_frames.proofs.frames.take_all.Given as goal

abbrev pub invariant-loop-frame : goal.invariant-loop-frame
invariant-loop-frame l = (stream : List ℕ) → IsPending l.initial.frames stream → HasTaken l.frames stream l.initial.taken.items l.taken.items

abbrev pub decreases-loop-frame : goal.decreases-loop-frame
decreases-loop-frame l = weight l.frames
