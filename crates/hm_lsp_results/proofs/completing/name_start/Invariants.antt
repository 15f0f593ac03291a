use Rattle.std.proofs.Common.{◌≡◌, ◌<◌, ◌≤◌, ℕ, true}
use Rattle.std.specs.Prelude.{slice_index}
use Rattle.hm_lsp_results.specs.Completions.{is_of_name}
use Rattle.hm_lsp_results.proofs.completing.name_start.Given as goal

abbrev pub invariant-bytes : goal.invariant-bytes
invariant-bytes l = record {
  within : l.start ≤ l.offset;
  passed : (i : ℕ) → l.start ≤ i → i < l.offset → is_of_name (slice_index l.text i) ≡ true;
}

abbrev pub decreases-bytes : goal.decreases-bytes
decreases-bytes l = l.start
