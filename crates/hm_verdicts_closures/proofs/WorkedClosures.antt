-- The worked import closures.
use Rattle.std.proofs.Common.{◌≡◌, ℕ, List, [], ◌∷◌, get_or, refl, ap, arith}
use Rattle.hm_syntax.specs.declared.ast.Module.{Module}
use Rattle.hm_verdicts.specs.Worked.{three_modules}
use Rattle.hm_verdicts_closures.specs.Closures.{HasSameClosure, HaveSameClosures, more, none, same}
use Rattle.hm_verdicts_closures.specs.Worked.{ClosuresRow, one_module, two_modules}

of_B : HasSameClosure three_modules two_modules 1 1
of_B = same (omega arith) (omega arith) refl none

without : HasSameClosure three_modules two_modules 2 0
without = same (omega arith) (omega arith) refl (more of_B none)

some_with_none : (i : ℕ) (is js : List ℕ) → js ≡ [] → ¬ (HaveSameClosures three_modules one_module (i ∷ is) js)
some_with_none i is js e (more h hs) = absurd (cc)

alone : ¬ (HasSameClosure three_modules one_module 2 0)
alone (same l k m below) = some_with_none 1 [] [] refl below

other : ¬ (HasSameClosure three_modules two_modules 0 1)
other (same l k m below) = let names : 65 ≡ 66 = ap (λ (m : Module). get_or m.header.name.text 0 0) m in absurd (omega (arith, names))

pub worked_closures : ClosuresRow
worked_closures = record { without = without; alone = alone; other = other }
