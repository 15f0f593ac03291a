-- Worked examples, by computing.
use Rattle.std.proofs.Common.{◌≡◌, ℕ, true, false, List, [], ◌∷◌, None, codes, refl, ap, arith}
use Rattle.hm_names.specs.Worked.{with_x}
use Rattle.hm_names.proofs.Members.{first, none_in}
use Rattle.hm_types.specs.Schemes.{TypeScheme}
use Rattle.hm_types.specs.Types.{App, done}
use Rattle.hm_types.specs.declared.Head.TheVariants as head
use Rattle.hm_scope_names.specs.Worked.{only_x, x_of_b}
use Rattle.hm_scope_typed_names.specs.Typed.{IsSchemeIn, of_variable}
use Rattle.hm_scope_typed_names.specs.Worked.{BegunRow, TypeRow, WrittenRow}

first_letter : List ℕ → ℕ
first_letter [] = 0
first_letter (letter ∷ text) = letter

apart : (j k : ℕ) → j ≡ 66 → k ≡ 120 → j ≡ k → ⊥
apart j k a b e = omega (arith, a, b, e)

other : false ≡ true → ⊥
other e = cc

pub worked_written : WrittenRow
unfolding first_letter
worked_written = record { bare = refl; qualified = refl; not_bare = λ e. apart _ _ refl refl (ap first_letter e) }

pub worked_begun : BegunRow
worked_begun = record { qualified = refl; bare = refl; not_bare = other }

the_scheme : TypeScheme
the_scheme = record { vars = 0; body = App head.Unit done }

in_b : IsSchemeIn only_x (x_of_b None) the_scheme
unfolding the_scheme
in_b = record { interface = with_x (codes "B"); among = first _ []; has = of_variable refl (first _ []) refl refl refl }

pub worked_types : TypeRow
unfolding the_scheme
worked_types = record { typed = (the_scheme, (in_b, refl)); not_untyped = λ h. h the_scheme in_b; not_other = λ h. absurd (none_in _ h.1.0.among) }
