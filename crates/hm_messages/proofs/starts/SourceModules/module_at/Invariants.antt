use Rattle.std.proofs.Common.{◌≡◌, ◌+◌, ◌-◌, ◌≤◌, ◌<◌, ℕ, length, get_or}
use Rattle.hm_lex.specs.Places.{IsBefore}
use Rattle.hm_messages.specs.declared.starts.ModuleStart.{ModuleStart}
use Rattle.hm_messages.proofs.starts.SourceModules.module_at.Given as goal

abbrev pub invariant-loop-low : goal.invariant-loop-low
invariant-loop-low l = record {
  ordered : l.low ≤ l.high;
  within : l.high ≤ length l.self-inside.starts.items;
  begun : (k : ℕ) (d : ModuleStart) → k + 1 ≡ l.low → ¬ (IsBefore l.place (get_or l.self-inside.starts.items k d).place);
  ends : (d : ModuleStart) → l.high < length l.self-inside.starts.items → IsBefore l.place (get_or l.self-inside.starts.items l.high d).place;
}

abbrev pub decreases-loop-low : goal.decreases-loop-low
decreases-loop-low l = l.high - l.low
