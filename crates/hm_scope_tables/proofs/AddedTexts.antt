-- A set of texts with one more.
use Rattle.std.proofs.Common.{◌≡◌, ℕ, cond, List, [], ◌∷◌, ◌++◌, inl, inr, ⊎_elim, sym, ap, ◌∙◌, subst, Contains}
use Rattle.std.proofs.lemmas.Bool.{cases_Bool}
use Rattle.hm_names.specs.Bindings.{Adds}
use Rattle.hm_names.specs.Texts.{is_text_among}
use Rattle.hm_names.proofs.AddedPairs.{adds_push}
use Rattle.hm_names.proofs.Standing.{among_decides}

pub text_added : (t : List ℕ) (old new : List (List ℕ)) → new ≡ cond (is_text_among t old) old (old ++ t ∷ []) → Adds old new (λ x. t ≡ x)
text_added t old new is = elim (cases_Bool (is_text_among t old)) [
  | inl there ↦
      let same : new ≡ old = is ∙ ap (λ b. cond b old (old ++ t ∷ [])) there in
      λ x. (λ h. inl (subst (λ l. Contains l x) same h), λ h. subst (λ l. Contains l x) (sym same) (⊎_elim (λ o. o) (λ e. subst (λ y. Contains old y) e ((among_decides t old).0 there)) h))
  | inr absent ↦ adds_push old new t (is ∙ ap (λ b. cond b old (old ++ t ∷ [])) absent)
]
