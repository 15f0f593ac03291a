-- Sets of bare names with their entities.
use Rattle.std.proofs.Common.{◌≡◌, ℕ, ◌<◌, Bool, true, false, cond, List, [], ◌∷◌, ◌++◌, Option, None, Some, option_map, is_some, Bor, inl, inr, ⊎_elim, refl, sym, ap, ◌∙◌, subst, Contains, Decides, length, arith}
use Rattle.std.specs.Prelude.{◌↔◌}
use Rattle.std.specs.List.{list_any, HoldsAt}
use Rattle.std.proofs.lemmas.Bool.{cases_Bool}
use Rattle.std.proofs.lemmas.Bool.Decides.{Decides-by_or, Decides-like, Decides-and}
use Rattle.std.proofs.lemmas.List.{get_or-map, length-map, map-append}
use Rattle.std.proofs.lemmas.Slice.Eq.{bytes_eq-Decides}
use Rattle.indexmap.specs.IndexSet.{insert_key}
use denote.Enum.Bare.{sameb}
use Rattle.hm_names.specs.contracts.namespace.Namespace.{the_type}
use Rattle.hm_names.specs.declared.namespace.Namespace.{Namespace}
use Rattle.hm_names.specs.declared.namespace.Namespace.TheVariants.{Types, Constructors, Values}
use Rattle.hm_scope_export_items.specs.declared.bare_pairs.BareKey.{BareKey}
use Rattle.hm_scope_export_items.specs.BarePairs.{same_bare, pair_at, pairs_at, bare_of}
use Rattle.hm_names.specs.Bindings.{Pair, Adds}
use Rattle.hm_names.proofs.AddedPairs.{adds_push, ForEach}

pub same_space : (a b : Namespace) → Decides (sameb the_type a b) (a ≡ b)
same_space Types Types = (λ _. refl, λ _. refl)
same_space Types Constructors = (λ e. let f : false ≡ true = e in cc, λ e. cc)
same_space Types Values = (λ e. let f : false ≡ true = e in cc, λ e. cc)
same_space Constructors Types = (λ e. let f : false ≡ true = e in cc, λ e. cc)
same_space Constructors Constructors = (λ _. refl, λ _. refl)
same_space Constructors Values = (λ e. let f : false ≡ true = e in cc, λ e. cc)
same_space Values Types = (λ e. let f : false ≡ true = e in cc, λ e. cc)
same_space Values Constructors = (λ e. let f : false ≡ true = e in cc, λ e. cc)
same_space Values Values = (λ _. refl, λ _. refl)

-- two keys are equal where their pairs are
same_pair : (j k : BareKey) → Decides (same_bare j k) (pair_at k ≡ pair_at j)
same_pair j k =
    let parts = Decides-and _ _ (same_space j.space k.space) (Decides-and _ _ (bytes_eq-Decides j.text.now k.text.now) (Decides-and _ _ (bytes_eq-Decides j.«module».now k.«module».now) (bytes_eq-Decides j.name.now k.name.now))) in (
      λ e. let p = parts.0 e in λ i. record { space = (sym p.0) i; qualifier = None; text = (sym p.1.0) i; entity = record { «module» = (sym p.1.1.0) i; name = (sym p.1.1.1) i } },
      λ s. parts.1 (sym (ap (λ p. p.space) s), (sym (ap (λ p. p.text) s), (sym (ap (λ p. p.entity.«module») s), sym (ap (λ p. p.entity.name) s)))),
    )

-- whether a list of keys has a pair
pub has_pair : (k : BareKey) (ks : List BareKey) → Decides (list_any (same_bare k) ks) (Contains (pairs_at ks) (pair_at k))
has_pair k ks = Decides-like (list_any (same_bare k) ks) there back (Decides-by_or (same_bare k) (λ j. pair_at j ≡ pair_at k) (list_any (same_bare k)) (same_pair k) refl (λ _ _. refl) ks)
  where
    there : (i : ℕ) × (i < length ks) × HoldsAt (λ j. pair_at j ≡ pair_at k) ks i → Contains (pairs_at ks) (pair_at k)
    there (i, inside, at) = (i, rw (length-map ks pair_at) inside, get_or-map pair_at ks i k (pair_at k) inside ∙ at k)

    back : Contains (pairs_at ks) (pair_at k) → (i : ℕ) × (i < length ks) × HoldsAt (λ j. pair_at j ≡ pair_at k) ks i
    back (i, inside, is) = let inside' : i < length ks = rw (length-map ks pair_at) at inside in (i, inside', λ d. sym (get_or-map pair_at ks i d (pair_at k) inside') ∙ is)

-- what a set has after one more
pub after_insert : (k : BareKey) (old new : List BareKey) → new ≡ insert_key same_bare old k → Adds (pairs_at old) (pairs_at new) (λ p. pair_at k ≡ p)
after_insert k old new is = elim (cases_Bool (list_any (same_bare k) old)) [
  | inl there ↦
      let same : new ≡ old = is ∙ ap (λ b. cond b old (old ++ k ∷ [])) there in
      let had : Contains (pairs_at old) (pair_at k) = (has_pair k old).0 there in
      λ p. (λ h. inl (subst (λ l. Contains (pairs_at l) p) same h), λ h. subst (λ l. Contains (pairs_at l) p) (sym same) (⊎_elim (λ o. o) (λ e. subst (λ q. Contains (pairs_at old) q) e had) h))
  | inr absent ↦
      let more : pairs_at new ≡ pairs_at old ++ pair_at k ∷ [] = ap pairs_at (is ∙ ap (λ b. cond b old (old ++ k ∷ [])) absent) ∙ map-append pair_at old (k ∷ []) in
      adds_push (pairs_at old) (pairs_at new) (pair_at k) more
]

-- a bare pair is its own bare name
pub is_bare : (p : Pair) → p.qualifier ≡ None → bare_of p ≡ p
is_bare p e = λ i. record { space = p.space; qualifier = (sym e) i; text = p.text; entity = p.entity }

pub unqualified : (o : Option (Bor (List ℕ))) (q : Option (List ℕ)) (b : Bool) → option_map (λ t. t.now) o ≡ q → b ≡ is_some o → b ≡ false → q ≡ None
unqualified None q b is s f = sym is
unqualified (Some x) q b is s f = absurd (let h : true ≡ false = sym s ∙ f in cc)

pub qualified : (o : Option (Bor (List ℕ))) (q : Option (List ℕ)) (b : Bool) → option_map (λ t. t.now) o ≡ q → b ≡ is_some o → b ≡ true → ¬ (q ≡ None)
qualified None q b is s t = absurd (let h : false ≡ true = sym s ∙ t in cc)
qualified (Some x) q b is s t = λ e. let h : Some x.now ≡ None = is ∙ e in cc

-- bare pairs, each in its turn
pub bare_exact : (old new pairs : List Pair) → old ≡ [] → Adds old new (ForEach (λ (q p : Pair). (q.qualifier ≡ None) × (q ≡ p)) pairs) → (p : Pair) → Contains new p ↔ (Contains pairs p × (p.qualifier ≡ None))
bare_exact old new pairs nothing a p = (
  (λ h. ⊎_elim (λ o. absurd (empty (subst (λ l. Contains l p) nothing o))) (λ (q, (c, (n, e))). (subst (λ z. Contains pairs z) e c, ap (λ (z : Pair). z.qualifier) (sym e) ∙ n)) ((a p).0 h)),
  (λ h. (a p).1 (inr (p, (h.0, (h.1, refl))))),
)
  where
    empty : Contains [] p → ⊥
    empty (k, h, e) = omega (arith, h)
