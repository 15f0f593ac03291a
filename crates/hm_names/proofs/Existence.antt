-- A well-formed module has a resolver.
use Rattle.std.proofs.Common.{◌≡◌, ℕ, zero, suc, ◌≤◌, List, [], ◌∷◌, length, Option, None, Some, ◌⊎◌, inl, inr, refl, sym, ap, ◌∙◌, subst, Contains, arith}
use Rattle.hm_types.specs.declared.Entity.{Entity}
use Rattle.hm_types.specs.Interfaces.{Exports as Interface}
use Rattle.hm_types.specs.Synonyms.{TypeSynonym}
use Rattle.hm_syntax.specs.Names.{Identifier}
use Rattle.hm_syntax.specs.Trees.{TypeTree, synonym_declaration}
use Rattle.hm_syntax.specs.declared.ast.Module.{Module}
use Rattle.hm_names.specs.declared.namespace.Namespace.{Namespace}
use Rattle.hm_names.specs.declared.namespace.Namespace.TheVariants.{Types, Constructors, Values}
use Rattle.hm_names.specs.Bindings.{Pair, IsScopeOf}
use Rattle.hm_names.specs.Variables.{constructors_in}
use Rattle.hm_names.specs.Expansion.{as_entity}
use Rattle.hm_names.specs.Types.{entity_of, synonym_of}
use Rattle.hm_names.specs.Scope.{InScope, Means, IsUnbound, IsAmbiguous}
use Rattle.hm_names.specs.Described.{TypeMeaning, algebraic, declared_synonym, imported_synonym, TypeDescription, type_meant}
use Rattle.hm_names.specs.Walk.{Locals}
use Rattle.hm_names.specs.Resolved.{Resolver, IsResolver, synonym_meant, type_with}
use Rattle.hm_names.specs.Faults.Arities.{RefersTo, refers, Reaches, directly}
use Rattle.hm_names.specs.Faults.Phases.{IsWellFormed}
use Rattle.hm_names.proofs.Members.{none_in, cases, first, rest, text_discrete, option_discrete, entity_discrete}
use Rattle.hm_names.proofs.Listings.{some_dec, both_dec, not_dec}
use Rattle.hm_names.proofs.ListedScope.{has_scope}
use Rattle.hm_names.proofs.Synonyms.{IsDeclared, is_declared, one_more, not_recursive}
use Rattle.hm_names.proofs.Agreement.{nothing_wrong, special_dec, local_dec, without, fewer, stays, synonyms, is_synonym, same_type, Clear, clear_type, clean_right_sides}

namespace_discrete : (s t : Namespace) → Dec (s ≡ t)
namespace_discrete Types Types = yes refl
namespace_discrete Types Constructors = no (λ e. cc)
namespace_discrete Types Values = no (λ e. cc)
namespace_discrete Constructors Types = no (λ e. cc)
namespace_discrete Constructors Constructors = yes refl
namespace_discrete Constructors Values = no (λ e. cc)
namespace_discrete Values Types = no (λ e. cc)
namespace_discrete Values Constructors = no (λ e. cc)
namespace_discrete Values Values = yes refl

-- the pair is of this name
abbrev IsOf : Namespace → Option (List ℕ) → List ℕ → Pair → Type 0
IsOf s q x p = (p.space ≡ s) × ((p.qualifier ≡ q) × (p.text ≡ x))

is_of_dec : (s : Namespace) (q : Option (List ℕ)) (x : List ℕ) (p : Pair) → Dec (IsOf s q x p)
is_of_dec s q x p = go (namespace_discrete p.space s) (option_discrete p.qualifier q) (text_discrete p.text x)
  where
    go : Dec (p.space ≡ s) → Dec (p.qualifier ≡ q) → Dec (p.text ≡ x) → Dec (IsOf s q x p)
    go (yes a) (yes b) (yes c) = yes (a, (b, c))
    go (no a) b c = no (λ h. a h.0)
    go (yes a) (no b) c = no (λ h. b h.1.0)
    go (yes a) (yes b) (no c) = no (λ h. c h.1.1)

-- a pair of the name, or none
abbrev Found : List Pair → Namespace → Option (List ℕ) → List ℕ → Type 0
Found ps s q x = ((p : Pair) × (Contains ps p × IsOf s q x p)) ⊎ ((p : Pair) → Contains ps p → ¬ (IsOf s q x p))

search_pairs : (ps : List Pair) (s : Namespace) (q : Option (List ℕ)) (x : List ℕ) → Found ps s q x
search_pairs [] s q x = inr (λ p c. absurd (none_in p c))
search_pairs (p ∷ ps) s q x = go (is_of_dec s q x p) (search_pairs ps s q x)
  where
    go : Dec (IsOf s q x p) → Found ps s q x → Found (p ∷ ps) s q x
    go (yes h) f = inl (p, (first p ps, h))
    go (no h) (inl f) = inl (f.0, (rest p ps f.0 f.1.0, f.1.1))
    go (no h) (inr f) = inr (λ o c. elim (cases p ps o c) [ inl e ↦ (λ k. h (subst (IsOf s q x) e k)) | inr d ↦ f o d ])

module _ (m : Module) (fs : List Interface) (ps : List Pair) (listed : IsScopeOf m fs ps) (w : IsWellFormed m fs) where
  abbrev named_by : (s : Namespace) (n : Identifier) → Found ps s n.qualifier n.text → Identifier
  named_by s n (inl f) = as_entity n f.0.entity
  named_by s n (inr f) = n

  named_is : (s : Namespace) (n : Identifier) (e : Entity) → Means m fs s n e → (f : Found ps s n.qualifier n.text) → named_by s n f ≡ as_entity n e
  named_is s n e h (inl f) =
      ap (as_entity n) (h.alone f.0.entity (subst (λ x. InScope m fs s n.qualifier x f.0.entity) f.1.1.1.1 (subst (λ q. InScope m fs s q f.0.text f.0.entity) f.1.1.1.0 (subst (λ k. InScope m fs k f.0.qualifier f.0.text f.0.entity) f.1.1.0 ((listed f.0).0 f.1.0)))))
  named_is s n e h (inr f) = absurd (f (record { space = s; qualifier = n.qualifier; text = n.text; entity = e }) ((listed (record { space = s; qualifier = n.qualifier; text = n.text; entity = e })).1 h.in_scope) (refl, (refl, refl)))

  -- a name that is clear means the entity that is found
  means_found : (n : Identifier) → Clear m fs n → (f : Found ps Types n.qualifier n.text) → Means m fs Types n (entity_of (named_by Types n f))
  means_found n c (inl f) =
      let i = subst (λ x. InScope m fs Types n.qualifier x f.0.entity) f.1.1.1.1 (subst (λ q. InScope m fs Types q f.0.text f.0.entity) f.1.1.1.0 (subst (λ k. InScope m fs k f.0.qualifier f.0.text f.0.entity) f.1.1.0 ((listed f.0).0 f.1.0))) in
      record { in_scope = i; alone = λ d j. elim (entity_discrete d f.0.entity) [ yes p ↦ p | no q ↦ absurd (c.1 (d, (f.0.entity, (j, i, q)))) ] }
  means_found n c (inr f) = absurd (c.0 (λ e i. f (record { space = Types; qualifier = n.qualifier; text = n.text; entity = e }) ((listed (record { space = Types; qualifier = n.qualifier; text = n.text; entity = e })).1 i) (refl, (refl, refl))))

  abbrev pick : {P : Type 0} → Dec P → Identifier → Identifier → Identifier
  pick (yes p) n k = n
  pick (no p) n k = k

  pick_yes : {P : Type 0} (d : Dec P) (n k : Identifier) → P → pick d n k ≡ n
  pick_yes (yes p) n k h = refl
  pick_yes (no p) n k h = absurd (p h)

  pick_no : {P : Type 0} (d : Dec P) (n k : Identifier) → ¬ P → pick d n k ≡ k
  pick_no (yes p) n k h = absurd (h p)
  pick_no (no p) n k h = refl

  abbrev found_name : Namespace → Identifier → Identifier
  found_name s n = named_by s n (search_pairs ps s n.qualifier n.text)

  abbrev name_in : Namespace → Locals → Identifier → Identifier
  name_in Values xs n = pick (local_dec xs n) n (found_name Values n)
  name_in Constructors xs n = pick (special_dec n) n (found_name Constructors n)
  name_in Types xs n = found_name Types n

  -- synonyms, with so many right sides expanded
  abbrev meant : Resolver → Option TypeDescription → Option TypeSynonym
  meant r None = None
  meant r (Some d) = synonym_meant r d.meaning

  abbrev level : ℕ → Resolver
  level zero = record { name = name_in; synonym = λ e. None }
  level (suc k) = record { name = name_in; synonym = λ e. meant (level k) (type_meant m.header.name.text m.decls fs e) }

  -- each declared synonym is among those that are left, or reaches this one
  abbrev Left : List (List ℕ) → List ℕ → Type 0
  Left left x = (o : Identifier) (qs : List Identifier) (u : TypeTree) → Contains m.decls (synonym_declaration o qs u) → Contains left o.text ⊎ Reaches m fs o.text x

  abbrev Settled : ℕ → Type 0
  Settled k =
      (left : List (List ℕ)) (n : Identifier) (qs : List Identifier) (t : TypeTree) →
      length left ≤ k → Contains m.decls (synonym_declaration n qs t) → Contains left n.text → Left left n.text → type_with (level k) t ≡ type_with (level (suc k)) t

  -- one more level changes no synonym, where it changes no right side
  kept : (k : ℕ) (e : Entity) (o : Option TypeDescription) → type_meant m.header.name.text m.decls fs e ≡ o →
      ((qs : List Identifier) (u : TypeTree) → IsDeclared m.header.name.text m.decls e qs u → type_with (level k) u ≡ type_with (level (suc k)) u) → meant (level k) o ≡ meant (level (suc k)) o
  kept k e None h each = refl
  kept k e (Some d) h each = at d.meaning refl
    where
      at : (t : TypeMeaning) → d.meaning ≡ t → synonym_meant (level k) t ≡ synonym_meant (level (suc k)) t
      at (algebraic j) q = refl
      at (declared_synonym qs u) q = ap (λ z. Some (synonym_of qs z)) (each qs u (is_declared m fs e d qs u h q))
      at (imported_synonym s) q = refl

  referred : (k : ℕ) → Settled k → (left : List (List ℕ)) (n : Identifier) (qs : List Identifier) (t : TypeTree) → length left ≤ suc k → Contains m.decls (synonym_declaration n qs t) → Contains left n.text → Left left n.text →
      (o : Identifier) → Contains (constructors_in t) o → (e : Entity) → Means m fs Types o e → (rs : List Identifier) (u : TypeTree) → IsDeclared m.header.name.text m.decls e rs u → type_with (level k) u ≡ type_with (level (suc k)) u
  referred k again left n qs t l c h all o q e g rs u d = again (without n.text left) d.name rs u (let f = fewer n.text left h in omega (arith, l, f)) d.stands there others
    where
      step : RefersTo m fs n.text d.name.text
      step = refers c refl q (subst (λ z. Means m fs Types o z) d.is g)

      other : ¬ (n.text ≡ d.name.text)
      other e = not_recursive m fs w n qs t c (directly (subst (λ z. RefersTo m fs n.text z) (sym e) step))

      there : Contains (without n.text left) d.name.text
      there = elim (all d.name rs u d.stands) [
        | inl i ↦ stays n.text left d.name.text i other
        | inr i ↦ absurd (not_recursive m fs w d.name rs u d.stands (one_more m fs d.name.text n.text d.name.text i step))
      ]

      others : Left (without n.text left) d.name.text
      others o qs u c = elim (all o qs u c) [
        | inl i ↦ elim (text_discrete n.text o.text) [
          | yes e ↦ inr (subst (λ z. Reaches m fs z d.name.text) e (directly step))
          | no x ↦ inl (stays n.text left o.text i x)
        ]
        | inr i ↦ inr (one_more m fs o.text n.text d.name.text i step)
      ]

  settled : (k : ℕ) → Settled k
  settled zero left n qs t l c h all = absurd (omega (arith, l, h.1))
  settled (suc k) left n qs t l c h all =
      same_type (level (suc k)) (level (suc (suc k))) t (λ o q. (
        refl,
        kept k (entity_of (found_name Types o)) (type_meant m.header.name.text m.decls fs (entity_of (found_name Types o))) refl (λ rs u d.
            referred k (settled k) left n qs t l c h all o q (entity_of (found_name Types o))
            (means_found o (clear_type m fs [] t (clean_right_sides m fs m.decls (nothing_wrong m fs w) n qs t c) o q) (search_pairs ps Types o.qualifier o.text)) rs u d),
      ))

  all_settled : (qs : List Identifier) (t : TypeTree) (e : Entity) → IsDeclared m.header.name.text m.decls e qs t → type_with (level (length (synonyms m.decls))) t ≡ type_with (level (suc (length (synonyms m.decls)))) t
  all_settled qs t e d = settled (length (synonyms m.decls)) (synonyms m.decls) d.name qs t (omega arith) d.stands (is_synonym m.decls d.name qs t d.stands) (λ o rs u c. inl (is_synonym m.decls o rs u c))

  is_resolver : IsResolver m fs (level (suc (length (synonyms m.decls))))
  is_resolver = record {
    local = λ xs n h. pick_yes (local_dec xs n) n (found_name Values n) h;
    value = λ xs n e o h. pick_no (local_dec xs n) n (found_name Values n) o ∙ named_is Values n e h (search_pairs ps Values n.qualifier n.text);
    special = λ xs n h. pick_yes (special_dec n) n (found_name Constructors n) h;
    constructor = λ xs n e o h. pick_no (special_dec n) n (found_name Constructors n) o ∙ named_is Constructors n e h (search_pairs ps Constructors n.qualifier n.text);
    type = λ xs n e h. named_is Types n e h (search_pairs ps Types n.qualifier n.text);
    synonym = λ e d h. ap (meant (level (length (synonyms m.decls)))) h ∙ kept (length (synonyms m.decls)) e (Some d) h (λ qs u k. all_settled qs u e k);
  }

pub has_resolver : (m : Module) (fs : List Interface) → IsWellFormed m fs → (r : Resolver) × IsResolver m fs r
has_resolver m fs w = let s = has_scope m fs in (level m fs s.0 s.1 w (suc (length (synonyms m.decls))), is_resolver m fs s.0 s.1 w)

-- Each name has a meaning, or a fault

module _ (m : Module) (fs : List Interface) (ps : List Pair) (listed : IsScopeOf m fs ps) (s : Namespace) (n : Identifier) where
  abbrev here : Entity → Pair
  here e = record { space = s; qualifier = n.qualifier; text = n.text; entity = e }

  scoped : (p : Pair) → Contains ps p → IsOf s n.qualifier n.text p → InScope m fs s n.qualifier n.text p.entity
  scoped p c o = subst (λ x. InScope m fs s n.qualifier x p.entity) o.1.1 (subst (λ q. InScope m fs s q p.text p.entity) o.1.0 (subst (λ k. InScope m fs k p.qualifier p.text p.entity) o.0 ((listed p).0 c)))

  meaning : Found ps s n.qualifier n.text → IsUnbound m fs s n ⊎ (IsAmbiguous m fs s n ⊎ ((e : Entity) × Means m fs s n e))
  meaning (inr f) = inl (λ e i. f (here e) ((listed (here e)).1 i) (refl, (refl, refl)))
  meaning (inl f) = go (some_dec (λ o. IsOf s n.qualifier n.text o × ¬ (o.entity ≡ f.0.entity)) (λ o. both_dec (is_of_dec s n.qualifier n.text o) (not_dec (entity_discrete o.entity f.0.entity))) ps)
    where
      go : Dec ((o : Pair) × (Contains ps o × (IsOf s n.qualifier n.text o × ¬ (o.entity ≡ f.0.entity)))) → IsUnbound m fs s n ⊎ (IsAmbiguous m fs s n ⊎ ((e : Entity) × Means m fs s n e))
      go (yes h) = inr (inl (h.0.entity, (f.0.entity, (scoped h.0 h.1.0 h.1.1.0, scoped f.0 f.1.0 f.1.1, h.1.1.1))))
      go (no h) = inr (inr (
        f.0.entity,
        record {
          in_scope = scoped f.0 f.1.0 f.1.1;
          alone = λ d j. elim (entity_discrete d f.0.entity) [ yes e ↦ e | no x ↦ absurd (h (here d, ((listed (here d)).1 j, ((refl, (refl, refl)), x)))) ];
        },
      ))

pub has_meaning : (m : Module) (fs : List Interface) (s : Namespace) (n : Identifier) → IsUnbound m fs s n ⊎ (IsAmbiguous m fs s n ⊎ ((e : Entity) × Means m fs s n e))
has_meaning m fs s n = let l = has_scope m fs in meaning m fs l.0 l.1 s n (search_pairs l.0 s n.qualifier n.text)
