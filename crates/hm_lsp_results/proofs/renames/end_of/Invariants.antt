use Rattle.std.proofs.Common.{◌≡◌, All, slice_range}
use Rattle.hm_lsp_results.proofs.renames.end_of.Given as goal

abbrev pub invariant-references : goal.invariant-references
invariant-references l = All (λ r. r.source ≡ l.source) (slice_range l.references l.from l.end)
