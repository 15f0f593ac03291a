-- Sets of names: what a set has.
use Rattle.std.proofs.Common.{◌≡◌, ℕ, ◌<◌, List, [], ◌∷◌, ◌++◌, cond, ◌⊎◌, inl, inr, refl, sym, ap, ◌∙◌, subst, Contains, Decides, option_map, length}
use Rattle.std.specs.Prelude.{◌↔◌}
use Rattle.std.specs.List.{list_any, HoldsAt}
use Rattle.std.proofs.lemmas.Bool.{cases_Bool}
use Rattle.std.proofs.lemmas.Bool.Decides.{Decides-by_or, Decides-like}
use Rattle.std.proofs.lemmas.List.{get_or-map, length-map, map-append}
use Rattle.std.proofs.lemmas.List.Elements.{Contains-push, Contains-push_cases, Contains-append_left}
use Rattle.indexmap.specs.IndexSet.{insert_key}
use Rattle.hm_scope_tables.specs.declared.keys.Key.{Key}
use Rattle.hm_scope_tables.specs.NameSets.{FullName, full_name, full_names}
use Rattle.hm_scope_tables.specs.Tables.{same_key}
use Rattle.hm_scope_tables.proofs.NameTables.{same_key_decides}

same_full : (j k : Key) → Decides (same_key j k) (full_name k ≡ full_name j)
same_full j k = Decides-like (same_key j k) (λ s. let a : j.space ≡ k.space = s.space in let b : option_map (λ q. q.now) j.qualifier ≡ option_map (λ q. q.now) k.qualifier = s.qualifier in let d : j.text.now ≡ k.text.now = s.text in cc)
    (λ e. record { space = sym (ap (λ n. n.space) e); qualifier = sym (ap (λ n. n.qualifier) e); text = sym (ap (λ n. n.text) e) }) (same_key_decides j k)

-- whether a list of keys has a name
pub has_name : (k : Key) (ks : List Key) → Decides (list_any (same_key k) ks) (Contains (full_names ks) (full_name k))
has_name k ks = Decides-like (list_any (same_key k) ks) there back (Decides-by_or (same_key k) (λ j. full_name j ≡ full_name k) (list_any (same_key k)) (same_full k) refl (λ _ _. refl) ks)
  where
    there : (i : ℕ) × (i < length ks) × HoldsAt (λ j. full_name j ≡ full_name k) ks i → Contains (full_names ks) (full_name k)
    there (i, inside, at) = (i, rw (length-map ks full_name) inside, get_or-map full_name ks i k (full_name k) inside ∙ at k)

    back : Contains (full_names ks) (full_name k) → (i : ℕ) × (i < length ks) × HoldsAt (λ j. full_name j ≡ full_name k) ks i
    back (i, inside, is) = let inside' : i < length ks = rw (length-map ks full_name) at inside in (i, inside', λ d. sym (get_or-map full_name ks i d (full_name k) inside') ∙ is)

-- what a set has after one more name
pub after_insert : (k : Key) (old new : List Key) → new ≡ insert_key same_key old k → (n : FullName) → Contains (full_names new) n ↔ (Contains (full_names old) n ⊎ (n ≡ full_name k))
after_insert k old new is n = elim (cases_Bool (list_any (same_key k) old)) [
  | inl there ↦
      let same : new ≡ old = is ∙ ap (λ b. cond b old (old ++ k ∷ [])) there in
      (λ h. inl (subst (λ l. Contains (full_names l) n) same h), λ h. elim h [ inl before ↦ subst (λ l. Contains (full_names l) n) (sym same) before | inr is_k ↦ subst (λ l. Contains (full_names l) n) (sym same) (subst (λ m. Contains (full_names old) m) (sym is_k) ((has_name k old).0 there)) ])
  | inr absent ↦
      let more : full_names new ≡ full_names old ++ full_name k ∷ [] = ap full_names (is ∙ ap (λ b. cond b old (old ++ k ∷ [])) absent) ∙ map-append full_name old (k ∷ []) in (
        λ h. elim (Contains-push_cases (full_names old) (full_name k) n (subst (λ l. Contains l n) more h)) [ inl before ↦ inl before | inr is_k ↦ inr (sym is_k) ],
        λ h. elim h [
          | inl before ↦ subst (λ l. Contains l n) (sym more) (Contains-append_left (full_names old) (full_name k ∷ []) n before)
          | inr is_k ↦ subst (λ l. Contains l n) (sym more) (subst (λ m. Contains (full_names old ++ full_name k ∷ []) m) (sym is_k) (Contains-push (full_names old) (full_name k)))
        ],
      )
]
