use Rattle.std.proofs.Common.{ℕ, ◌<◌}
use Rattle.hm_infer_generalisation.specs.Escapes.{Escapes}
use Rattle.hm_infer_generalisation.proofs.escaping.has_escaped.Given as goal

abbrev pub invariant-loop-i : goal.invariant-loop-i
invariant-loop-i l = (j : ℕ) → j < l.i → ¬ (Escapes l.first l.solver j)
