-- Worked examples of renames.
use Rattle.std.proofs.Common.{◌≡◌, ℕ, List, [], ◌∷◌, ap, arith, codes, length, refl}
use Rattle.hm_names.specs.Entities.{named}
use Rattle.hm_uses.specs.Uses.{Sense, local_variable, type_variable, an_entity, a_module, a_prefix, unbound, ambiguous}
use Rattle.hm_uses_renames.specs.Texts.{IsReplaced}
use Rattle.hm_uses_renames.specs.Worked.{MeaningsRow, TextsRow, letter_at}

not_one : ¬ (IsReplaced (codes "x = A.x") (codes "yy") [] (codes "yy = A.x"))
not_one h = let z : 8 ≡ 7 = ap (λ (l : List ℕ). length l) h in absurd (omega (arith, z))

both : IsReplaced (codes "x = A.x") (codes "yy") (letter_at 1 ∷ letter_at 7 ∷ []) (codes "yy = A.yy")
both = (
  0,
  (
    codes " = A.yy",
    (
      omega arith,
      (
        record { place = refl; within = omega arith },
        (
          (
            6,
            (
              [],
              (
                omega arith,
                (
                  record { place = refl; within = omega arith },
                  (refl, refl),
                ),
              ),
            ),
          ),
          refl,
        ),
      ),
    ),
  ),
)

pub worked_texts : TextsRow
worked_texts = record { both = both; none = refl; not_one = not_one }

-- the first byte of a module's name in a sense
abbrev first : List ℕ → ℕ
first [] = 0
first (c ∷ cs) = c

abbrev first_of : Sense → ℕ
first_of (local_variable l c) = 0
first_of (type_variable l c) = 0
first_of (an_entity e) = first e.«module»
first_of (a_module x) = 0
first_of (a_prefix x) = 0
first_of unbound = 0
first_of ambiguous = 0

abbrev in_module : List ℕ → Sense
in_module m = an_entity (named m (codes "y"))

not_other : ¬ (in_module (codes "B") ≡ in_module (codes "A"))
not_other h = let z : 66 ≡ 65 = ap first_of h in absurd (omega (arith, z))

not_captured : ¬ (local_variable 1 7 ≡ an_entity (named (codes "A") (codes "x")))
not_captured h = absurd (cc)

not_bound : ¬ (local_variable 1 7 ≡ unbound)
not_bound h = absurd (cc)

pub worked_meanings : MeaningsRow
worked_meanings = record { entity = refl; not_other = not_other; moved = (1, (7, refl)); not_captured = not_captured; not_bound = not_bound }
