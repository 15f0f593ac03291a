use Rattle.std.proofs.Common.{◌≤◌}
use Rattle.hm_infer.proofs.SignedFaults.{NoneBefore}
use Rattle.hm_infer.proofs.signed_faults.has_flag.Given as goal

abbrev pub invariant-clauses : goal.invariant-clauses
invariant-clauses l = record {
  none : NoneBefore l.decls l.flags l.place l.i;
  behind : l.place ≤ l.i;
}
