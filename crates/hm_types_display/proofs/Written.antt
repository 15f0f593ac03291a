-- What the text of a type rests on.
use Rattle.std.proofs.Common.{◌≡◌, ℕ, true, List, [], ◌∷◌, ◌++◌, length, refl, ◌∙◌, append_assoc}
use Rattle.std.specs.Prelude.{codes}
use Rattle.hm_types.specs.declared.Entity.{Entity}
use Rattle.hm_types.specs.declared.monotypes.Ty.{Ty}
use Rattle.hm_types.specs.declared.Head.{Head}
use Rattle.hm_types.specs.declared.Head.TheVariants.{Named}
use Rattle.hm_types_display.specs.declared.printing.Position.{Position}
use Rattle.hm_types_display.specs.declared.printing.Position.TheVariants.{Argument}
use Rattle.hm_types.specs.Types.{App as app}
use Rattle.hm_types.specs.Monotypes.{arguments_of}
use Rattle.hm_types.specs.Shape.{types_of}
use Rattle.hm_types_display.specs.Texts.{type_text, entity_text, rest_text, applied_bracketed}

pub named_bracketed : (p : Position) (h : Head) (e : Entity) (ts : List Ty) (start out : List ℕ) → h ≡ Named e → applied_bracketed p ≡ true → (length ts ≡ 0 → ⊥)
    → out ≡ ((start ++ codes "(") ++ entity_text e) ++ rest_text Argument (codes " ") (arguments_of (types_of ts)) ++ codes ")" → out ≡ start ++ type_text p (app h (arguments_of (types_of ts)))
named_bracketed p h e [] start out is b some made = absurd (some refl)
named_bracketed p h e (t ∷ ts) start out is b some made =
    rw (is, b) (made ∙ regroup start (codes "(") (entity_text e) (rest_text Argument (codes " ") (arguments_of (types_of (t ∷ ts)))) (codes ")"))
  where
    regroup : (a b c d e : List ℕ) → ((a ++ b) ++ c) ++ d ++ e ≡ a ++ (b ++ (c ++ d) ++ e)
    regroup a b c d e = simp append_assoc
