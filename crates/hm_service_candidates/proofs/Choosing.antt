-- A test that says yes and no decides a property.
use Rattle.std.proofs.Common.{◌≡◌, ◌↔◌, Bool, false, inl, inr, true}
use Rattle.std.proofs.lemmas.Bool.{cases_Bool}

pub decided : (b : Bool) (P : Type 0) → (b ≡ true → P) → (b ≡ false → ¬ P) → (b ≡ true) ↔ P
decided b P has not = (has, λ p. elim (cases_Bool b) [ inl set ↦ set | inr clear ↦ absurd (not clear p) ])
