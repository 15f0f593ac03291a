-- Worked examples, by computing.
use Rattle.std.proofs.Common.{◌≡◌, ◌<◌, ℕ, zero, suc, List, [], ◌∷◌, length, refl, arith}
use Rattle.hm_scope_typed_names.specs.declared.typed.TypedName.{TypedName}
use Rattle.hm_service_completions.specs.Completions.{AreCompletionsAt, HasNoModule, IsBegun, IsModuleAt, in_module, nowhere}
use Rattle.hm_service_completions.specs.Worked.{ModuleRow, NoModuleRow, two_modules}

second_begun : IsBegun two_modules (4 ∷ []) 4 1 1
second_begun = record { own = refl; before = omega arith }

before_all : HasNoModule two_modules (4 ∷ []) 4 0
before_all zero inside h = absurd (omega (arith, h.before))
before_all (suc zero) inside h = absurd (omega (arith, h.before))
before_all (suc (suc j)) inside h = absurd (omega (arith, inside))

other : (n : ℕ) → n ≡ 4 → n ≡ 5 → ⊥
other n a b = omega (arith, a, b)

in_no_other : HasNoModule two_modules (4 ∷ []) 5 1
in_no_other zero inside h = other _ refl h.own
in_no_other (suc zero) inside h = other _ refl h.own
in_no_other (suc (suc j)) inside h = absurd (omega (arith, inside))

pub worked_modules : ModuleRow
worked_modules = record {
  second = record { inside = omega arith; begun = second_begun; last = λ j after inside. absurd (omega (arith, after, inside)) };
  not_first = λ h. h.last 1 (omega arith) (omega arith) second_begun;
  before = before_all;
  elsewhere = in_no_other;
}

no_member : (n : TypedName) (ns : List TypedName) → n ∷ ns ≡ [] → ⊥
no_member n ns e = cc

not_one_there : (n : TypedName) → AreCompletionsAt two_modules (4 ∷ []) 4 0 [] (n ∷ []) → ⊥
not_one_there n (in_module {i} at are) = before_all i at.inside at.begun
not_one_there n (nowhere none is) = no_member n [] is

pub worked_none : NoModuleRow
worked_none = record { none = nowhere before_all refl; not_one = not_one_there }
