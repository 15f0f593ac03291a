use Rattle.hm_infer.proofs.SignedFaults.{PlacesBefore}
use Rattle.hm_infer.proofs.signed_faults.signed_faults.Given as goal

abbrev pub invariant-decls : goal.invariant-decls
invariant-decls l = record {
  told : PlacesBefore l.list.decls.now l.waiting.items l.refused.items l.place l.places.items;
}
