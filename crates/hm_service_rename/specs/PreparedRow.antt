-- Worked examples: the name that a rename is of.
use Rattle.std.specs.Prelude.{◌≡◌, codes, false, string_bytes}
use Rattle.hm_service_rename.specs.Prepared.{IsTarget}
use Rattle.hm_service_rename.specs.declared.results.Target.{Target}
use Rattle.hm_uses_references.specs.Worked.{at_column, letter_at, names}

-- at A.x a rename is of x, after the qualifier. It is of no other text, and at no bracket
pub record TargetRow : Type 0 where
  pub qualified : (t : Target) → t.reference ≡ letter_at 1 39 false → string_bytes t.name ≡ codes "x" → IsTarget names 1 (at_column 37) t
  pub not_qualifier : (t : Target) → string_bytes t.name ≡ codes "A.x" → ¬ (IsTarget names 1 (at_column 37) t)
  pub not_elsewhere : (t : Target) → ¬ (IsTarget names 1 (at_column 1) t)
