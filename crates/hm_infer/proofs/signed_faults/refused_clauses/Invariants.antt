use Rattle.std.proofs.Common.{◌≡◌, ◌≤◌, length, get_or, false}
use Rattle.hm_syntax.specs.Trees.{Declarations}
use Rattle.hm_infer_context.specs.Constructors.{known_of}
use Rattle.hm_infer_context.specs.Environments.{assumptions}
use Rattle.hm_infer.specs.SignedFaults.{Refuses}
use Rattle.hm_infer_expressions.specs.SignedLists.{AreSignatures}
use Rattle.hm_infer.proofs.SignedFaults.{Flagged}
use Rattle.hm_infer.proofs.signed_faults.refused_clauses.Given as goal

abbrev pub invariant-decls : goal.invariant-decls
invariant-decls l = record {
  told : Flagged (λ p d b. (all : Declarations) → AreSignatures all l.list.signatures.now → Refuses (get_or l.waiting p false) b (known_of l.list.constructors.now) all (assumptions l.initial.inference.environment) d) l.list.decls.now l.i l.refused.items;
  inside : l.i ≤ length l.list.decls.now;
  same : l.inference.environment ≡ l.initial.inference.environment;
}
