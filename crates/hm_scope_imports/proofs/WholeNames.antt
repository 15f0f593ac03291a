-- The names under which modules can be exported whole.
use Rattle.std.proofs.Common.{◌≡◌, ℕ, List, [], inl, inr, ⊎_elim, refl, sym, ap, ◌∙◌, subst, Contains}
use Rattle.std.specs.Prelude.{◌↔◌}
use Rattle.hm_syntax.specs.declared.ast.Import.{Import}
use Rattle.hm_syntax.specs.declared.ast.Module.{Module}
use Rattle.hm_names.specs.Bindings.{Adds}
use Rattle.hm_names.specs.Exports.{IsModuleName, this, an_import}
use Rattle.hm_names.specs.Scope.{Imports, written, added, known_as, prelude_name}
use Rattle.hm_names.proofs.Members.{none_in}

abbrev Known : Module → List ℕ → Type 0
Known m x = (i : Import) × (Contains m.header.imports i × (known_as i ≡ x))

abbrev NamesPrelude : Module → Type 0
NamesPrelude m = (i : Import) × (Contains m.header.imports i × (i.name.text ≡ prelude_name))

module _ (m : Module) (x : List ℕ) where
  known_name : Known m x → IsModuleName m x
  known_name (i, (c, e)) = an_import (written c) e

  pub names_with : (n1 n2 n3 : List (List ℕ)) → n1 ≡ [] → Adds n1 n2 (λ y. m.header.name.text ≡ y) → Adds n2 n3 (λ y. (i : Import) × (Contains m.header.imports i × (known_as i ≡ y))) → NamesPrelude m → Contains n3 x ↔ IsModuleName m x
  names_with n1 n2 n3 e a b (j, (stands, prelude)) = (
    (λ h. ⊎_elim (λ o. ⊎_elim (λ n. absurd (none_in x (subst (λ l. Contains l x) e n))) (λ t. this t) ((a x).0 o)) known_name ((b x).0 h)),
    (λ h. back h),
  )
    where
      imported : {i : Import} → Imports m i → known_as i ≡ x → Contains n3 x
      imported {i = i} (written c) known = (b x).1 (inr (i, (c, known)))
      imported {i = i} (added none is) known = absurd (none j stands prelude)

      back : IsModuleName m x → Contains n3 x
      back (this t) = (b x).1 (inl ((a x).1 (inr t)))
      back (an_import imports known) = imported imports known

  pub names_without : (n1 n2 n3 n4 : List (List ℕ)) → n1 ≡ [] → Adds n1 n2 (λ y. m.header.name.text ≡ y) → Adds n2 n3 (λ y. (i : Import) × (Contains m.header.imports i × (known_as i ≡ y))) → Adds n3 n4 (λ y. prelude_name ≡ y) → ¬ NamesPrelude m → Contains n4 x ↔ IsModuleName m x
  names_without n1 n2 n3 n4 e a b d no_prelude = (
    (λ h. ⊎_elim (λ w. ⊎_elim (λ o. ⊎_elim (λ n. absurd (none_in x (subst (λ l. Contains l x) e n))) (λ t. this t) ((a x).0 o)) known_name ((b x).0 w)) (λ p. an_import (added (λ j c q. no_prelude (j, (c, q))) refl) p) ((d x).0 h)),
    (λ h. back h),
  )
    where
      imported : {i : Import} → Imports m i → known_as i ≡ x → Contains n4 x
      imported {i = i} (written c) known = (d x).1 (inl ((b x).1 (inr (i, (c, known)))))
      imported {i = i} (added none is) known = (d x).1 (inr (sym (ap known_as is) ∙ known))

      back : IsModuleName m x → Contains n4 x
      back (this t) = (d x).1 (inl ((b x).1 (inl ((a x).1 (inr t)))))
      back (an_import imports known) = imported imports known
