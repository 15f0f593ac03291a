use Rattle.std.proofs.Common.{◌≡◌, ℕ, vec_len, get_or, None, Some}
use Rattle.hm_types.specs.declared.monotypes.Ty.{Ty}
use Rattle.hm_types_subsumption.proofs.instances.instance_of.Given as goal

abbrev pub invariant-loop : goal.invariant-loop
invariant-loop l = record {
  len : vec_len l.found ≡ l.counter;
  empty : (n : ℕ) (t : Ty) → get_or l.found.items n None ≡ Some t → ⊥;
}
