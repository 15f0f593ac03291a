-- Worked examples.
use Rattle.std.proofs.Common.{◌≡◌, length, refl, ap, arith}
use Rattle.hm_build_objects.specs.Worked.{TypeTextsRow, RunsRow, LineRow}

pub type_texts : TypeTextsRow
type_texts = record {
  left = refl;
  right = refl;
  applied = refl;
  bare = λ e. let n : 13 ≡ 11 = ap length e in absurd (omega (arith, n));
}

pub once : RunsRow
once = record { clauses = refl; apart = refl }

pub line : LineRow
line = refl
