use Rattle.std.proofs.Common.{◌≡◌, ℕ, length}
use Rattle.hm_unify.specs.LevelTables.{table_level_before, TableIsWithin}
use Rattle.hm_unify.proofs.levels.LevelTable.undo.Given as goal

abbrev pub invariant-loop-change : goal.invariant-loop-change
invariant-loop-change l = record {
  same : (n : ℕ) → table_level_before l.self n ≡ table_level_before l.initial.self n;
  within : TableIsWithin l.self;
}

abbrev pub decreases-loop-change : goal.decreases-loop-change
decreases-loop-change l = length l.self.changes.items
