use Rattle.std.proofs.Common.{◌≡◌, ℕ, List, Some, cond, drop}
use Rattle.hm_names.specs.Syntax.{is_signed_among}
use Rattle.hm_names.specs.Types.{declared_type}
use Rattle.hm_infer_expressions.specs.SignedLists.{declared_in}
use Rattle.hm_infer_expressions.proofs.signed.add_names.Given as goal

abbrev pub invariant-names : goal.invariant-names
invariant-names l = (x : List ℕ) → cond (is_signed_among x (drop l.place l.names)) (Some (declared_type l.ty)) (declared_in l.signatures x) ≡ cond (is_signed_among x l.names) (Some (declared_type l.ty)) (declared_in l.initial.signatures x)
