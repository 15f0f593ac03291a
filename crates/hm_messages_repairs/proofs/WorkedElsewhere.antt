-- The worked example of the place of another token.
use Rattle.std.proofs.Common.{arith, inl, inr, refl}
use Rattle.hm_messages_repairs.specs.Worked.{ElsewhereRow}

pub worked_elsewhere : ElsewhereRow
worked_elsewhere = record {
  other = λ a b. ((λ e. omega (arith, e)), omega arith, record { within = omega arith; stands = λ d l. refl });
  not_left_out = λ a b h. elim h [ inl e ↦ omega (arith, e) | inr l ↦ omega (arith, l) ];
  same = λ a b. inl refl;
  not_named = λ a b p h. h.0 refl;
}
