-- The worked names with their arguments.
use Rattle.std.proofs.Common.{◌≡◌, zero, suc, Contains, ap, arith, refl}
use Rattle.std.specs.Prelude.{codes}
use Rattle.hm_messages_arguments.specs.Applied.{Applied, applied_to}
use Rattle.hm_messages_arguments.specs.WorkedArguments.{AppliedRow, applied, named}

none : Contains (applied_to 0 applied) (named 1 (codes "f") 1) → ⊥
none (zero, l, e) = let same : 2 ≡ 1 = ap (λ (a : Applied). a.arguments) e in omega (arith, same)
none (suc zero, l, e) = let same : 4 ≡ 1 = ap (λ (a : Applied). a.name.column) e in omega (arith, same)
none (suc (suc zero), l, e) = let same : 8 ≡ 1 = ap (λ (a : Applied). a.name.column) e in omega (arith, same)
none (suc (suc (suc zero)), l, e) = let same : 14 ≡ 1 = ap (λ (a : Applied). a.name.column) e in omega (arith, same)
none (suc (suc (suc (suc k))), l, e) = absurd (omega (arith, l))

pub worked_arguments : AppliedRow
worked_arguments = record { all = refl; one = none }
