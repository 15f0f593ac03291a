-- Worked examples: a text with a new name, and what names mean after a rename.
use Rattle.std.specs.Prelude.{ℕ, [], ◌∷◌, codes, false}
use Rattle.hm_names.specs.Entities.{named}
use Rattle.hm_uses.specs.Uses.{an_entity, local_variable, unbound}
use Rattle.hm_uses_references.specs.declared.finding.Reference.{Reference}
use Rattle.hm_uses_renames.specs.Renames.{IsRenamedTo, IsStill}
use Rattle.hm_uses_renames.specs.Texts.{IsReplaced}

abbrev pub letter_at : ℕ → Reference
letter_at column = record { source = 0; line = 1; column = column; length = 1; binds = false }

-- both x of the text get the name yy. Without references nothing is replaced
pub record TextsRow : Type 0 where
  pub both : IsReplaced (codes "x = A.x") (codes "yy") (letter_at 1 ∷ letter_at 7 ∷ []) (codes "yy = A.yy")
  pub none : IsReplaced (codes "x = A.x") (codes "yy") [] (codes "x = A.x")
  pub not_one : ¬ (IsReplaced (codes "x = A.x") (codes "yy") [] (codes "yy = A.x"))

-- if A.x is renamed to y, it means A.y then. A local variable may move, and what means nothing doesn't begin to mean something
pub record MeaningsRow : Type 0 where
  pub entity : IsRenamedTo (codes "y") (an_entity (named (codes "A") (codes "x"))) (an_entity (named (codes "A") (codes "y")))
  pub not_other : ¬ (IsRenamedTo (codes "y") (an_entity (named (codes "A") (codes "x"))) (an_entity (named (codes "B") (codes "y"))))
  pub moved : IsStill (local_variable 1 5) (local_variable 1 7)
  pub not_captured : ¬ (IsStill (an_entity (named (codes "A") (codes "x"))) (local_variable 1 7))
  pub not_bound : ¬ (IsStill unbound (local_variable 1 7))
