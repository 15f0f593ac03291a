use Rattle.std.proofs.Common.{◌≡◌, ℕ, suc, ◌-◌, ◌≤◌, length, vec_len}
use Rattle.hm_unify.specs.LevelTables.{level_in}
use Rattle.hm_unify.proofs.levels.grow.Given as goal

abbrev pub invariant-loop-levels : goal.invariant-loop-levels
invariant-loop-levels l = record {
  same : (n : ℕ) → level_in l.levels.items n ≡ level_in l.initial.levels.items n;
  longer : length l.initial.levels.items ≤ length l.levels.items;
}

abbrev pub decreases-loop-levels : goal.decreases-loop-levels
decreases-loop-levels l = suc l.number - vec_len l.levels
