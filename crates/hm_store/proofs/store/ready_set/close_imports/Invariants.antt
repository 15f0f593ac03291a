use Rattle.std.proofs.Common.{◌≡◌, ◌==◌, ℕ, ◌+◌, count_by, length, take}
use Rattle.hm_store.specs.Readiness.{HasRoom, IsHeapOf, count_at, is_free}
use Rattle.hm_store.proofs.store.ready_set.close_imports.Given as goal

abbrev pub invariant-loop-importer : goal.invariant-loop-importer
invariant-loop-importer l = record {
  len : length l.counts ≡ length l.initial.counts;
  counts : (k : ℕ) → count_at l.counts k + count_by (λ j. j == k) (take l.importer-index l.importers) ≡ count_at l.initial.counts k;
  heap : IsHeapOf (is_free l.statuses l.counts) l.ready;
  room : HasRoom l.counts l.ready;
}
