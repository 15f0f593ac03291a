-- The skeleton of a good module's interface is the module's skeleton.
use Rattle.std.proofs.Common.{◌≡◌, ℕ, Bool, true, false, cond, List, [], ◌∷◌, ◌++◌, map, Option, Some, None, Contains, refl, sym, ap, ◌∙◌, subst}
use Rattle.hm_types.specs.declared.Entity.{Entity}
use Rattle.hm_types.specs.declared.entries.ValueEntry.{ValueEntry}
use Rattle.hm_types.specs.Interfaces.{Exports as Interface, IsInterface, AreOrdered}
use Rattle.hm_types.specs.Schemes.{TypeScheme}
use Rattle.hm_types.specs.StandardPrelude.{prelude_interface}
use Rattle.hm_typing.specs.Names.{IsOneOf, global}
use Rattle.hm_typing.specs.Syntax.{names}
use Rattle.hm_syntax.specs.declared.ast.Module.{Module}
use Rattle.hm_names.specs.ModuleCores.{ModuleCore}
use Rattle.hm_names.specs.Cores.{IsTop, HasArity, HasSynonym, IsDescribed, HasScheme, own, other, imported_values, declared_schemes, constructor_scheme}
use Rattle.hm_names.specs.Described.{first_of, type_meant, constructor_meant, declared_types, declared_constructors}
use Rattle.hm_names.specs.Texts.{same_entity}
use Rattle.hm_verdicts.specs.ModuleVerdicts.{IsGoodFor}
use Rattle.hm_verdicts.specs.Skeletons.{blank, skeleton, without_scheme, with_prelude, IsSkeletonOf}
use Rattle.hm_verdicts.proofs.Alike.{Alike, alike}
use Rattle.hm_verdicts.proofs.Lists.{one_of_contained, contained, one_of_map, one_of_mapped}
use Rattle.hm_verdicts.proofs.Moved.{with_interfaces, moved_core, same_schemes, moved_syntax}

twice : (vs : List ValueEntry) → map without_scheme vs ≡ map without_scheme (map without_scheme vs)
twice [] = refl
twice (v ∷ vs) = ap (λ r. without_scheme v ∷ r) (twice vs)

skeleton_twice : (f : Interface) → skeleton f ≡ skeleton (skeleton f)
skeleton_twice f = ap (λ vs. record { name = f.name; types = f.types; synonyms = f.synonyms; constructors = f.constructors; values = vs }) (twice f.values)

pub skeletons_twice : (fs : List Interface) → map skeleton fs ≡ map skeleton (map skeleton fs)
skeletons_twice [] = refl
skeletons_twice (f ∷ fs) = ap (λ k. k ∷ map skeleton fs) (skeleton_twice f) ∙ ap (λ r. skeleton (skeleton f) ∷ r) (skeletons_twice fs)

map_append : (xs ys : List ValueEntry) → map without_scheme (xs ++ ys) ≡ map without_scheme xs ++ map without_scheme ys
map_append [] ys = refl
map_append (x ∷ xs) ys = ap (λ r. without_scheme x ∷ r) (map_append xs ys)

pub values_of_skeletons : (fs : List Interface) → imported_values (map skeleton fs) ≡ map without_scheme (imported_values fs)
values_of_skeletons [] = refl
values_of_skeletons (f ∷ fs) = ap (λ r. map without_scheme f.values ++ r) (values_of_skeletons fs) ∙ sym (map_append f.values (imported_values fs))

-- The first entry of an entity

first_without : (e : Entity) (vs : List ValueEntry) (r : ValueEntry) → first_of (λ v. v.entity) e vs ≡ Some r → first_of (λ v. v.entity) e (map without_scheme vs) ≡ Some (without_scheme r)
first_without e [] r h = absurd (none_some h)
  where
    is_none : {X : Type 0} → Option X → Type 0
    is_none None = Unit {0}
    is_none (Some x) = ⊥

    none_some : {X : Type 0} {x : X} → None ≡ Some x → ⊥
    none_some q = subst is_none q tt
first_without e (v ∷ vs) r h = at (same_entity e v.entity) h (λ k. first_without e vs r k)
  where
    some_value : ValueEntry → Option ValueEntry → ValueEntry
    some_value d None = d
    some_value d (Some x) = x

    at : (b : Bool) → cond b (Some v) (first_of (λ w. w.entity) e vs) ≡ Some r → (first_of (λ w. w.entity) e vs ≡ Some r → first_of (λ w. w.entity) e (map without_scheme vs) ≡ Some (without_scheme r)) →
        cond b (Some (without_scheme v)) (first_of (λ w. w.entity) e (map without_scheme vs)) ≡ Some (without_scheme r)
    at true k ih = ap (λ x. Some (without_scheme x)) (ap (some_value v) k)
    at false k ih = ih k

-- without schemes, it stands for one with its scheme
first_with : (e : Entity) (vs : List ValueEntry) (r : ValueEntry) → first_of (λ v. v.entity) e (map without_scheme vs) ≡ Some r → (w : ValueEntry) × ((first_of (λ v. v.entity) e vs ≡ Some w) × (r ≡ without_scheme w))
first_with e [] r h = absurd (none_some h)
  where
    is_none : {X : Type 0} → Option X → Type 0
    is_none None = Unit {0}
    is_none (Some x) = ⊥

    none_some : {X : Type 0} {x : X} → None ≡ Some x → ⊥
    none_some q = subst is_none q tt
first_with e (v ∷ vs) r h = at (same_entity e v.entity) h (λ k. first_with e vs r k)
  where
    some_value : ValueEntry → Option ValueEntry → ValueEntry
    some_value d None = d
    some_value d (Some x) = x

    at : (b : Bool) → cond b (Some (without_scheme v)) (first_of (λ w. w.entity) e (map without_scheme vs)) ≡ Some r →
        (first_of (λ w. w.entity) e (map without_scheme vs) ≡ Some r → (w : ValueEntry) × ((first_of (λ v. v.entity) e vs ≡ Some w) × (r ≡ without_scheme w))) →
        (w : ValueEntry) × ((cond b (Some v) (first_of (λ v. v.entity) e vs) ≡ Some w) × (r ≡ without_scheme w))
    at true k ih = (v, (refl, sym (ap (some_value v) k)))
    at false k ih = ih k

-- Cores and interfaces

value_names : (vs : List ValueEntry) → map (λ x. x.name) vs ≡ map (λ x. x.name) (map without_scheme vs)
value_names [] = refl
value_names (v ∷ vs) = ap (λ r. v.name ∷ r) (value_names vs)

skeleton_ordered : (f : Interface) → IsInterface f → IsInterface (skeleton f)
skeleton_ordered f o = record { types = o.types; synonyms = o.synonyms; apart = o.apart; constructors = o.constructors; values = subst AreOrdered (value_names f.values) o.values }

module _ (c : ModuleCore) (gs : List Interface) (h : map skeleton c.interfaces ≡ map skeleton gs) where
  a : Alike c.interfaces gs
  a = alike c.interfaces gs h

  type_same : (e : Entity) → type_meant c.name c.decls c.interfaces e ≡ type_meant c.name c.decls gs e
  type_same e = ap (λ r. first_of (λ d. d.entity) e (declared_types c.name c.decls ++ r)) a.types

  constructor_same : (e : Entity) → constructor_meant c.name c.decls c.interfaces e ≡ constructor_meant c.name c.decls gs e
  constructor_same e = ap (λ r. first_of (λ d. d.entity) e (declared_constructors c.name c.decls ++ r)) a.constructors

  scheme_same : (e : Entity) → constructor_scheme c.name c.decls c.interfaces e ≡ constructor_scheme c.name c.decls gs e
  scheme_same e = ap (λ r. first_of (λ d. d.entity) e (declared_schemes c.name c.decls ++ r)) (same_schemes c.interfaces gs h)

  arity_there : (e : Entity) (k : ℕ) → HasArity c e k → HasArity (with_interfaces gs c) e k
  arity_there e k q = record { description = q.description; is = sym (type_same e) ∙ q.is; arity = q.arity }

  arity_back : (e : Entity) (k : ℕ) → HasArity (with_interfaces gs c) e k → HasArity c e k
  arity_back e k q = record { description = q.description; is = type_same e ∙ q.is; arity = q.arity }

  synonym_there : (e : Entity) (s : _) → HasSynonym c e s → HasSynonym (with_interfaces gs c) e s
  synonym_there e s q = record { description = q.description; is = sym (type_same e) ∙ q.is; synonym = q.synonym }

  synonym_back : (e : Entity) (s : _) → HasSynonym (with_interfaces gs c) e s → HasSynonym c e s
  synonym_back e s q = record { description = q.description; is = type_same e ∙ q.is; synonym = q.synonym }

  described_there : (e t : Entity) (k : ℕ) (s : TypeScheme) → IsDescribed c e t k s → IsDescribed (with_interfaces gs c) e t k s
  described_there e t k s q = record { description = sym (constructor_same e) ∙ q.description; scheme = sym (scheme_same e) ∙ q.scheme }

  described_back : (e t : Entity) (k : ℕ) (s : TypeScheme) → IsDescribed (with_interfaces gs c) e t k s → IsDescribed c e t k s
  described_back e t k s q = record { description = constructor_same e ∙ q.description; scheme = scheme_same e ∙ q.scheme }

  top_there : (e : Entity) → IsTop c e → IsTop (with_interfaces gs c) e
  top_there e t = subst (λ ds. IsOneOf (global e) (names ds)) (moved_syntax c gs h) t

  top_back : (e : Entity) → IsTop (with_interfaces gs c) e → IsTop c e
  top_back e t = subst (λ ds. IsOneOf (global e) (names ds)) (sym (moved_syntax c gs h)) t

some_scheme : TypeScheme → Option TypeScheme → TypeScheme
some_scheme d None = d
some_scheme d (Some x) = x

module _ (m : Module) (fs : List Interface) (f : Interface) (g : IsGoodFor m (prelude_interface ∷ fs) f) where
  here : map skeleton g.core.interfaces ≡ map skeleton (with_prelude (map skeleton fs))
  here = ap (map skeleton) g.is_core.interfaces ∙ skeletons_twice (prelude_interface ∷ fs)

  bare : ModuleCore
  bare = with_interfaces (with_prelude (map skeleton fs)) g.core

  all_values : imported_values (with_prelude (map skeleton fs)) ≡ map without_scheme (imported_values g.core.interfaces)
  all_values = values_of_skeletons (prelude_interface ∷ fs) ∙ ap (λ z. map without_scheme (imported_values z)) (sym g.is_core.interfaces)

  scheme_there : (e : Entity) (s : TypeScheme) → HasScheme g.core g.given e s → HasScheme (with_interfaces (with_prelude (map skeleton fs)) g.core) (λ x. Some blank) e blank
  scheme_there e s (own t k) = own (top_there g.core (with_prelude (map skeleton fs)) here e t) refl
  scheme_there e s (other {r = r} n k q) =
      other {r = without_scheme r} (λ t. n (top_back g.core (with_prelude (map skeleton fs)) here e t)) (ap (λ vs. first_of (λ v. v.entity) e vs) all_values ∙ first_without e (imported_values g.core.interfaces) r k) refl

  is_blank : (e : Entity) (s : TypeScheme) → HasScheme (with_interfaces (with_prelude (map skeleton fs)) g.core) (λ x. Some blank) e s → s ≡ blank
  unfolding some_scheme
  is_blank e s (own t k) = ap (some_scheme s) (sym k)
  is_blank e s (other {r = r} n k q) =
      let w = first_with e (imported_values g.core.interfaces) r (sym (ap (λ vs. first_of (λ v. v.entity) e vs) all_values) ∙ k) in
      q ∙ ap (λ z. z.scheme) w.1.1

  scheme_back : (e : Entity) (s : TypeScheme) → HasScheme (with_interfaces (with_prelude (map skeleton fs)) g.core) (λ x. Some blank) e s → (z : TypeScheme) × HasScheme g.core g.given e z
  scheme_back e s (own t k) = let top = top_back g.core (with_prelude (map skeleton fs)) here e t in let q = g.principal.each e top in (q.0, own top q.1.0)
  scheme_back e s (other {r = r} n k q) =
      let w = first_with e (imported_values g.core.interfaces) r (sym (ap (λ vs. first_of (λ v. v.entity) e vs) all_values) ∙ k) in
      (w.0.scheme, other {r = w.0} (λ t. n (top_there g.core (with_prelude (map skeleton fs)) here e t)) w.1.0 refl)

  value_there : (r : ValueEntry) → Contains (map without_scheme f.values) r → Contains g.core.exported_values (record { name = r.name; entity = r.entity }) × HasScheme (with_interfaces (with_prelude (map skeleton fs)) g.core) (λ x. Some blank) r.entity r.scheme
  value_there r k =
      let w = one_of_mapped without_scheme r f.values (one_of_contained (map without_scheme f.values) r k) in
      let q = (g.interface.values w.0).0 (contained f.values w.0 w.1.0) in
      subst (λ z. Contains g.core.exported_values (record { name = z.name; entity = z.entity }) × HasScheme (with_interfaces (with_prelude (map skeleton fs)) g.core) (λ x. Some blank) z.entity z.scheme) (sym w.1.1) (q.0, scheme_there w.0.entity w.0.scheme q.1)

  value_back : (r : ValueEntry) → Contains g.core.exported_values (record { name = r.name; entity = r.entity }) × HasScheme (with_interfaces (with_prelude (map skeleton fs)) g.core) (λ x. Some blank) r.entity r.scheme → Contains (map without_scheme f.values) r
  value_back r q =
      let z = scheme_back r.entity r.scheme q.1 in
      let v : ValueEntry = record { name = r.name; entity = r.entity; scheme = z.0 } in
      let o : IsOneOf (without_scheme v) (map without_scheme f.values) = one_of_map without_scheme v f.values (one_of_contained f.values v ((g.interface.values v).1 (q.0, z.1))) in
      let same : without_scheme v ≡ r = ap (λ s. record { name = r.name; entity = r.entity; scheme = s }) (sym (is_blank r.entity r.scheme q.1)) in
      contained (map without_scheme f.values) r (subst (λ x. IsOneOf x (map without_scheme f.values)) same o)

  pub skeleton_of_good : IsSkeletonOf m (map skeleton fs) (skeleton f)
  skeleton_of_good = record {
    core = with_interfaces (with_prelude (map skeleton fs)) g.core;
    is_core = moved_core m (prelude_interface ∷ fs) (with_prelude (map skeleton fs)) g.core (skeletons_twice (prelude_interface ∷ fs)) g.is_core;
    interface = record {
      name = g.interface.name;
      types = λ r. (
        (λ k. let q = (g.interface.types r).0 k in (q.0, arity_there g.core (with_prelude (map skeleton fs)) here r.entity r.arity q.1)),
        (λ q. (g.interface.types r).1 (q.0, arity_back g.core (with_prelude (map skeleton fs)) here r.entity r.arity q.1)),
      );
      synonyms = λ r. (
        (λ k. let q = (g.interface.synonyms r).0 k in (q.0, synonym_there g.core (with_prelude (map skeleton fs)) here r.entity r.synonym q.1)),
        (λ q. (g.interface.synonyms r).1 (q.0, synonym_back g.core (with_prelude (map skeleton fs)) here r.entity r.synonym q.1)),
      );
      constructors = λ r. (
        (λ k. let q = (g.interface.constructors r).0 k in (q.0, described_there g.core (with_prelude (map skeleton fs)) here r.entity r.owner r.arguments r.scheme q.1)),
        (λ q. (g.interface.constructors r).1 (q.0, described_back g.core (with_prelude (map skeleton fs)) here r.entity r.owner r.arguments r.scheme q.1)),
      );
      values = λ r. (value_there r, value_back r);
    };
    ordered = skeleton_ordered f g.ordered;
  }
