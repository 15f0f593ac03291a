-- What the groups of selectors have, of each binding of a scope and of them all.
use Rattle.std.proofs.Common.{◌≡◌, ℕ, Bool, true, false, cond, List, [], ◌∷◌, ◌++◌, Option, None, Some, option_map, Bor, ◌⊎◌, inl, inr, ⊎_elim, refl, sym, ap, ◌∙◌, subst, Contains, not}
use Rattle.std.specs.Prelude.{◌↔◌}
use Rattle.std.proofs.lemmas.Bool.{cases_Bool, both_ways}
use Rattle.std.specs.Map.{lookup}
use denote.Enum.Bare.{sameb}
use Rattle.hm_names.specs.contracts.namespace.Namespace.{the_type}
use Rattle.hm_types.specs.declared.Entity.{Entity}
use Rattle.hm_types.specs.Interfaces.{Exports as Interface}
use Rattle.hm_syntax.specs.declared.ast.Module.{Module}
use Rattle.hm_scope_export_items.specs.declared.export_groups.Selector.{Selector}
use Rattle.hm_names.specs.declared.namespace.Namespace.{Namespace}
use Rattle.hm_names.specs.declared.namespace.Namespace.TheVariants.{Constructors}
use Rattle.hm_scope_export_items.specs.BarePairs.{bare_of}
use Rattle.hm_names.specs.Bindings.{Pair, Adds, IsScopeOf}
use Rattle.hm_names.specs.Described.{ConstructorDescription, first_of, declared_constructors, imported_constructors}
use Rattle.hm_names.specs.Entities.{named}
use Rattle.hm_scope_export_items.specs.ExportGroups.{same_selector, Groups, grouped, group_of, IsBoth, IsOwned, IsSelected, AreGroupsOf, IsOfWhole, IsOfOwner}
use Rattle.hm_names.specs.Scope.{InScope}
use Rattle.hm_names.proofs.AddedPairs.{adds_push, adds_like, adds_none, adds_then, ForEach}
use Rattle.hm_scope_export_items.proofs.BareSets.{same_space}
use Rattle.hm_names.proofs.Members.{none_in}
use Rattle.hm_scope_export_items.proofs.Selectors.{IsSameSelector, same_selector_decides}

-- one more in the group of j
pub grouped_more : (old new : Groups) (j k : Selector) (b : Pair) → group_of new k ≡ cond (same_selector j k) (group_of old k ++ b ∷ []) (group_of old k) → Adds (group_of old k) (group_of new k) (λ p. IsSameSelector j k × (b ≡ p))
grouped_more old new j k b is = elim (cases_Bool (same_selector j k)) [
  | inl same ↦
      let more : group_of new k ≡ group_of old k ++ b ∷ [] = is ∙ ap (λ t. cond t (group_of old k ++ b ∷ []) (group_of old k)) same in
      adds_like (group_of old k) (group_of new k) (λ p. b ≡ p) (λ p. IsSameSelector j k × (b ≡ p)) (λ p e. ((same_selector_decides j k).0 same, e)) (λ p h. h.1) (adds_push (group_of old k) (group_of new k) b more)
  | inr apart ↦
      let kept : group_of new k ≡ group_of old k = is ∙ ap (λ t. cond t (group_of old k ++ b ∷ []) (group_of old k)) apart in
      subst (λ l. Adds (group_of old k) l (λ p. IsSameSelector j k × (b ≡ p))) (sym kept) (adds_none (group_of old k) (λ p. IsSameSelector j k × (b ≡ p)) (λ p h. both_ways (same_selector j k) apart ((same_selector_decides j k).1 h.0)))
]

module _ (bare : List Pair) (q : Pair) (k : Selector) where
  pub no_whole : (old : List Pair) → ((Some k.«module».now ≡ q.qualifier → ⊥) ⊎ (¬ Contains bare (bare_of q))) → Adds old old (IsOfWhole bare q k)
  no_whole old n = adds_none old (IsOfWhole bare q k) (λ p h. ⊎_elim (λ other. other (sym h.0)) (λ absent. absent h.1.1.1.0) n)

  pub whole_added : (old new : List Pair) (j : Selector) (x : Bor (List ℕ)) → j ≡ record { «module» = x; owner = None; part = None } → Some x.now ≡ q.qualifier → Contains bare (bare_of q) → Adds old new (λ p. IsSameSelector j k × (bare_of q ≡ p)) → Adds old new (IsOfWhole bare q k)
  whole_added old new j x is under has a = adds_like old new (λ p. IsSameSelector j k × (bare_of q ≡ p)) (IsOfWhole bare q k)
      (λ p h. let s = h.0 in (sym under ∙ ap Some (ap (λ (z : Selector). z.«module».now) (sym is) ∙ s.module_is), (sym s.owner_is ∙ ap (λ (z : Selector). option_map (λ t. t.now) z.owner) is, (sym s.part_is ∙ ap (λ (z : Selector). option_map (λ t. t.now) z.part) is, (has, h.1)))))
      (λ p h. (
        record {
          module_is = ap (λ (z : Selector). z.«module».now) is ∙ one x.now k.«module».now (under ∙ h.0);
          owner_is = ap (λ (z : Selector). option_map (λ t. t.now) z.owner) is ∙ sym h.1.0;
          part_is = ap (λ (z : Selector). option_map (λ t. t.now) z.part) is ∙ sym h.1.1.0;
        },
        h.1.1.1.1,
      )) a
    where
      one : (y z : List ℕ) → Some y ≡ Some z → y ≡ z
      one y z e = cc

module _ (ds : List ConstructorDescription) (q : Pair) (k : Selector) where
  pub not_constructor : (old : List Pair) → ¬ (q.space ≡ Constructors) → Adds old old (IsOfOwner ds q k)
  not_constructor old n = adds_none old (IsOfOwner ds q k) (λ p h. n h.0)

  pub no_owner : (old : List Pair) → option_map (λ d. d.owner) (first_of (λ d. d.entity) q.entity ds) ≡ None → Adds old old (IsOfOwner ds q k)
  no_owner old n = adds_none old (IsOfOwner ds q k) (λ p h. let e : Some h.1.0 ≡ None = sym h.1.1.0 ∙ n in cc)

  pub owner_added : (old mid new : List Pair) (i j : Selector) (t : Entity) → q.space ≡ Constructors → option_map (λ d. d.owner) (first_of (λ d. d.entity) q.entity ds) ≡ Some t
      → i.«module».now ≡ t.«module» → option_map (λ z. z.now) i.owner ≡ Some t.name → option_map (λ z. z.now) i.part ≡ None
      → j.«module».now ≡ t.«module» → option_map (λ z. z.now) j.owner ≡ Some t.name → option_map (λ z. z.now) j.part ≡ Some q.text
      → Adds old mid (λ p. IsSameSelector i k × (bare_of q ≡ p)) → Adds mid new (λ p. IsSameSelector j k × (bare_of q ≡ p)) → Adds old new (IsOfOwner ds q k)
  owner_added old mid new i j t space is im io ip jm jo jp a b = adds_like old new (λ p. (IsSameSelector i k × (bare_of q ≡ p)) ⊎ (IsSameSelector j k × (bare_of q ≡ p))) (IsOfOwner ds q k)
      (λ p h. ⊎_elim
      (λ (s, e). (space, (t, (is, (sym s.module_is ∙ im, (sym s.owner_is ∙ io, (inl (sym s.part_is ∙ ip), e)))))))
      (λ (s, e). (space, (t, (is, (sym s.module_is ∙ jm, (sym s.owner_is ∙ jo, (inr (sym s.part_is ∙ jp), e))))))) h)
      (λ p h. back p h)
      (adds_then old mid new (λ p. IsSameSelector i k × (bare_of q ≡ p)) (λ p. IsSameSelector j k × (bare_of q ≡ p)) a b)
    where
      back : (p : Pair) → IsOfOwner ds q k p → (IsSameSelector i k × (bare_of q ≡ p)) ⊎ (IsSameSelector j k × (bare_of q ≡ p))
      back p (_, (u, (at, (km, (ko, (parts, e)))))) =
          let one : Some u ≡ Some t = sym at ∙ is in
          let same : u ≡ t = cc in
          ⊎_elim
          (λ alone. inl (record { module_is = im ∙ sym (km ∙ ap (λ (z : Entity). z.«module») same); owner_is = io ∙ sym (ko ∙ ap (λ (z : Entity). Some z.name) same); part_is = ip ∙ sym alone }, e))
          (λ named. inr (record { module_is = jm ∙ sym (km ∙ ap (λ (z : Entity). z.«module») same); owner_is = jo ∙ sym (ko ∙ ap (λ (z : Entity). Some z.name) same); part_is = jp ∙ sym named }, e)) parts

-- the answer of a comparison
pub is_constructor : (s : Namespace) (r : Bool) → r ≡ not (sameb the_type s Constructors) → r ≡ false → s ≡ Constructors
is_constructor s r is f = (same_space s Constructors).0 (unequal (sameb the_type s Constructors) (sym is ∙ f))
  where
    unequal : (b : Bool) → not b ≡ false → b ≡ true
    unequal true e = refl
    unequal false e = absurd (let h : true ≡ false = e in cc)

pub isnt_constructor : (s : Namespace) (r : Bool) → r ≡ not (sameb the_type s Constructors) → r ≡ true → ¬ (s ≡ Constructors)
isnt_constructor s r is t e = let h : true ≡ false = sym t ∙ is ∙ ap not ((same_space s Constructors).1 e) in cc

owner_known : (o : Option ConstructorDescription) (u : Entity) → option_map (λ d. d.owner) o ≡ Some u → (d : ConstructorDescription) × ((o ≡ Some d) × (d.owner ≡ u))
owner_known None u e = absurd (let h : None ≡ Some u = e in cc)
owner_known (Some d) u e = (d, (refl, let h : Some d.owner ≡ Some u = e in cc))

same_text : (x y : List ℕ) → Some x ≡ Some y → x ≡ y
same_text x y e = cc

-- all of a scope
module _ (m : Module) (fs : List Interface) (pairs bare : List Pair) where
  abbrev Descriptions : List ConstructorDescription
  Descriptions = declared_constructors m.header.name.text m.decls ++ imported_constructors fs

  abbrev pub OfSome : Selector → Pair → Pair → Type 0
  OfSome k q p = IsOfWhole bare q k p ⊎ IsOfOwner Descriptions q k p

  module _ (scope : IsScopeOf m fs pairs) (bares : (p : Pair) → Contains bare p ↔ (Contains pairs p × (p.qualifier ≡ None))) (k : Selector) (p : Pair) where
    in_scope : (q : Pair) (s : Namespace) (u : Option (List ℕ)) → Contains pairs q → q.space ≡ s → q.qualifier ≡ u → InScope m fs s u q.text q.entity
    in_scope q s u c e f = subst (λ z. InScope m fs z u q.text q.entity) e (subst (λ z. InScope m fs q.space z q.text q.entity) f ((scope q).0 c))

    abbrev pair_under : Namespace → Option (List ℕ) → Pair
    pair_under s u = record { space = s; qualifier = u; text = p.text; entity = p.entity }

    both_in_scope : (q : Pair) → Contains pairs q → IsOfWhole bare q k p → IsBoth m fs k.«module».now p
    both_in_scope q c (under, (bare_owner, (np, (has, e)))) = subst (λ z. IsBoth m fs k.«module».now z) e (refl, ((scope (bare_of q)).0 ((bares (bare_of q)).0 has).0, in_scope q q.space (Some k.«module».now) c refl under))

    whole_of_both : option_map (λ t. t.now) k.owner ≡ None → option_map (λ t. t.now) k.part ≡ None → IsBoth m fs k.«module».now p → ForEach (OfSome k) pairs p
    whole_of_both bare_owner np (none, (alone, under)) = (
      pair_under p.space (Some k.«module».now),
      (
        (scope (pair_under p.space (Some k.«module».now))).1 under,
        inl (refl, (bare_owner, (np, ((bares (pair_under p.space None)).1 ((scope (pair_under p.space None)).1 alone, refl), λ i. record { space = p.space; qualifier = (sym none) i; text = p.text; entity = p.entity })))),
      ),
    )

    owned : (q : Pair) (t : List ℕ) → Contains pairs q → IsOfOwner Descriptions q k p → option_map (λ t. t.now) k.owner ≡ Some t → IsOwned m fs (named k.«module».now t) p
    owned q t c (space, (u, (is, (km, (ko, (parts, e)))))) owner =
        let d = owner_known (first_of (λ d. d.entity) q.entity Descriptions) u is in
        let named_is : u ≡ named k.«module».now t = λ i. record { «module» = (sym km) i; name = (same_text u.name t (sym ko ∙ owner)) i } in
        subst (λ z. IsOwned m fs (named k.«module».now t) z) e (refl, (space, ((d.0, (d.1.0, d.1.1 ∙ named_is)), (q.qualifier, in_scope q Constructors q.qualifier c space refl))))

    owner_of_owned : (t : List ℕ) → option_map (λ t. t.now) k.owner ≡ Some t → (option_map (λ t. t.now) k.part ≡ None) ⊎ (option_map (λ t. t.now) k.part ≡ Some p.text) → IsOwned m fs (named k.«module».now t) p → ForEach (OfSome k) pairs p
    owner_of_owned t owner part (none, (space, ((d, (meant, is)), (u, h)))) = (
      pair_under Constructors u,
      (
        (scope (pair_under Constructors u)).1 h,
        inr (refl, (named k.«module».now t, (ap (option_map (λ d. d.owner)) meant ∙ ap Some is, (refl, (owner, (part, λ i. record { space = (sym space) i; qualifier = (sym none) i; text = p.text; entity = p.entity })))))),
      ),
    )

    selected : (o r : Option (List ℕ)) → option_map (λ t. t.now) k.owner ≡ o → option_map (λ t. t.now) k.part ≡ r → ForEach (OfSome k) pairs p ↔ IsSelected m fs k.«module».now o r p
    selected None None owner part = (
      (λ (q, (c, h)). ⊎_elim (λ w. both_in_scope q c w) (λ (space, (u, (is, (km, (ko, rest))))). absurd (let e : Some u.name ≡ None = sym ko ∙ owner in cc)) h),
      (λ h. whole_of_both owner part h),
    )
    selected None (Some x) owner part = (
      (λ (q, (c, h)). ⊎_elim (λ (under, (bare_owner, (np, rest))). absurd (let e : Some x ≡ None = sym part ∙ np in cc)) (λ (space, (u, (is, (km, (ko, rest))))). absurd (let e : Some u.name ≡ None = sym ko ∙ owner in cc)) h),
      (λ h. absurd h),
    )
    selected (Some t) None owner part = (
      (λ (q, (c, h)). ⊎_elim (λ (under, (bare_owner, rest)). absurd (let e : Some t ≡ None = sym owner ∙ bare_owner in cc)) (λ w. owned q t c w owner) h),
      (λ h. owner_of_owned t owner (inl part) h),
    )
    selected (Some t) (Some x) owner part = (
      (λ (q, (c, h)). ⊎_elim (λ (under, (bare_owner, rest)). absurd (let e : Some t ≡ None = sym owner ∙ bare_owner in cc)) (λ w. (owned q t c w owner, named_part q w)) h),
      (λ (h, e). owner_of_owned t owner (inr (part ∙ ap Some (sym e))) h),
    )
      where
        named_part : (q : Pair) → IsOfOwner Descriptions q k p → p.text ≡ x
        named_part q (space, (u, (is, (km, (ko, (parts, e)))))) = ⊎_elim (λ none. absurd (let h : Some x ≡ None = sym part ∙ none in cc)) (λ some. ap (λ (z : Pair). z.text) (sym e) ∙ same_text q.text x (sym some ∙ part)) parts

  pub groups_exact : (old groups : Groups) → old.entries ≡ [] → ((k : Selector) → Adds (group_of old k) (group_of groups k) (ForEach (OfSome k) pairs)) → ((p : Pair) → Contains bare p ↔ (Contains pairs p × (p.qualifier ≡ None))) → IsScopeOf m fs pairs → AreGroupsOf m fs groups
  groups_exact old groups empty a bares scope k p =
      let exact = selected scope bares k p (option_map (λ t. t.now) k.owner) (option_map (λ t. t.now) k.part) refl refl in
      let nothing : group_of old k ≡ [] = ap (λ es. grouped (lookup (same_selector k) es)) empty in
      ((λ h. exact.0 (⊎_elim (λ o. absurd (none_in p (subst (λ l. Contains l p) nothing o))) (λ f. f) ((a k p).0 h))), (λ h. (a k p).1 (inr (exact.1 h))))
