-- Worked examples: how names are written, which of them begin with a prefix, and their types.
use Rattle.std.specs.Prelude.{◌≡◌, true, [], None, Some, codes}
use Rattle.hm_scope_names.specs.Worked.{only_x, x_of_b}
use Rattle.hm_scope_typed_names.specs.Typed.{HasType, begins, written_text}

-- a qualifier comes before its dot
pub record WrittenRow : Type 0 where
  pub bare : written_text None (codes "x") ≡ codes "x"
  pub qualified : written_text (Some (codes "B")) (codes "x") ≡ codes "B.x"
  pub not_bare : ¬ (written_text (Some (codes "B")) (codes "x") ≡ codes "x")

-- B.x begins with its qualifier, and x doesn't
pub record BegunRow : Type 0 where
  pub qualified : begins (codes "B.") (x_of_b (Some (codes "B"))) ≡ true
  pub bare : begins (codes "x") (x_of_b None) ≡ true
  pub not_bare : ¬ (begins (codes "B.") (x_of_b None) ≡ true)

-- the interface of B has the type () for x, and without an interface x has none
pub record TypeRow : Type 0 where
  pub typed : HasType only_x (x_of_b None) (Some (codes "()"))
  pub not_untyped : ¬ (HasType only_x (x_of_b None) None)
  pub not_other : ¬ (HasType [] (x_of_b None) (Some (codes "()")))
