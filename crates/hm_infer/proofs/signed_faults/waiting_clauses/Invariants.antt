use Rattle.std.proofs.Common.{◌≤◌, length}
use Rattle.hm_infer_dependencies.specs.Nodes.{AllShown}
use Rattle.hm_infer.specs.SignedFaults.{Waits}
use Rattle.hm_infer.proofs.SignedFaults.{Flagged}
use Rattle.hm_infer.proofs.signed_faults.waiting_clauses.Given as goal

abbrev pub invariant-decls : goal.invariant-decls
invariant-decls l = record {
  told : Flagged (λ p d b. Waits b l.numbers l.typed d) l.decls l.i l.waiting.items;
  inside : l.i ≤ length l.decls;
  shown : AllShown l.shown.items (length l.numbers);
}
