-- What the pairs of a scope give a name is what the name means.
use Rattle.std.proofs.Common.{◌≡◌, ℕ, Bool, true, false, cond, ◌&&◌, List, [], ◌∷◌, Option, None, Some, ⊎_elim, refl, sym, ap, ap₂, ◌∙◌, subst, Decides}
use Rattle.std.specs.List.{Contains}
use Rattle.std.proofs.lemmas.Bool.Decides.{Decides-and}
use Rattle.std.proofs.lemmas.Slice.Eq.{bytes_eq-Decides}
use Rattle.hm_types.specs.declared.Entity.{Entity}
use Rattle.hm_types.specs.Interfaces.{Exports as Interface}
use Rattle.hm_syntax.specs.Names.{Identifier}
use Rattle.hm_syntax.specs.declared.ast.Module.{Module}
use Rattle.hm_names.specs.declared.namespace.Namespace.{Namespace}
use Rattle.hm_names.specs.declared.namespace.Namespace.TheVariants.{Types, Constructors, Values}
use Rattle.hm_names.specs.Texts.{same_text, same_entity}
use Rattle.hm_names.specs.Scope.{IsUnbound, IsAmbiguous, Means}
use Rattle.hm_names.specs.Bindings.{Pair, IsScopeOf, MeaningOf, unbound, ambiguous, entity, same_qualifier, same_space, is_for, joined, meaning_of}
use Rattle.hm_names.proofs.Members.{none_in, cases, first_by, rest}

pub text_decides : (x y : List ℕ) → Decides (same_text x y) (x ≡ y)
text_decides x y = bytes_eq-Decides x y

qualifier_decides : (p q : Option (List ℕ)) → Decides (same_qualifier p q) (p ≡ q)
qualifier_decides None None = (λ _. refl, λ _. refl)
qualifier_decides None (Some y) = (λ e. cc, λ e. cc)
qualifier_decides (Some x) None = (λ e. cc, λ e. cc)
qualifier_decides (Some x) (Some y) = (λ e. ap Some ((text_decides x y).0 e), λ e. (text_decides x y).1 (cc))

space_decides : (s t : Namespace) → Decides (same_space s t) (s ≡ t)
space_decides Types Types = (λ _. refl, λ _. refl)
space_decides Types Constructors = (λ e. cc, λ e. cc)
space_decides Types Values = (λ e. cc, λ e. cc)
space_decides Constructors Types = (λ e. cc, λ e. cc)
space_decides Constructors Constructors = (λ _. refl, λ _. refl)
space_decides Constructors Values = (λ e. cc, λ e. cc)
space_decides Values Types = (λ e. cc, λ e. cc)
space_decides Values Constructors = (λ e. cc, λ e. cc)
space_decides Values Values = (λ _. refl, λ _. refl)

entity_decides : (d e : Entity) → Decides (same_entity d e) (d ≡ e)
entity_decides d e =
    let h = Decides-and (same_text d.«module» e.«module») (same_text d.name e.name) (text_decides d.«module» e.«module») (text_decides d.name e.name) in
    ((λ t. let q = h.0 t in ap₂ (λ a b. record { «module» = a; name = b }) q.0 q.1), (λ q. h.1 (ap (λ (z : Entity). z.«module») q, ap (λ (z : Entity). z.name) q)))

abbrev pub pair_for : Namespace → Identifier → Entity → Pair
pair_for s n e = record { space = s; qualifier = n.qualifier; text = n.text; entity = e }

for_decides : (s : Namespace) (n : Identifier) (p : Pair) → Decides (is_for s n p) (pair_for s n p.entity ≡ p)
for_decides s n p =
    let inner = Decides-and (same_qualifier n.qualifier p.qualifier) (same_text n.text p.text) (qualifier_decides n.qualifier p.qualifier) (text_decides n.text p.text) in
    let h = Decides-and (same_space s p.space) (same_qualifier n.qualifier p.qualifier && same_text n.text p.text) (space_decides s p.space) inner in (
      (λ t. let q = h.0 t in λ i. record { space = q.0 i; qualifier = q.1.0 i; text = q.1.1 i; entity = p.entity }),
      (λ q. h.1 (ap (λ (z : Pair). z.space) q, (ap (λ (z : Pair). z.qualifier) q, ap (λ (z : Pair). z.text) q))),
    )

-- what a meaning says of the pairs
abbrev pub Told : List Pair → Namespace → Identifier → MeaningOf → Type 0
Told ps s n unbound = (e : Entity) → ¬ (Contains ps (pair_for s n e))
Told ps s n ambiguous = (d : Entity) × ((e : Entity) × (Contains ps (pair_for s n d) × (Contains ps (pair_for s n e) × ¬ (d ≡ e))))
Told ps s n (entity e) = Contains ps (pair_for s n e) × ((d : Entity) → Contains ps (pair_for s n d) → d ≡ e)

module _ (s : Namespace) (n : Identifier) (p : Pair) (ps : List Pair) where
  widen : (m : MeaningOf) → ((x : Entity) → ¬ (pair_for s n x ≡ p)) → Told ps s n m → Told (p ∷ ps) s n m
  widen unbound isnt t = λ e c. ⊎_elim (λ q. absurd (isnt e q)) (λ o. t e o) (cases p ps (pair_for s n e) c)
  widen ambiguous isnt t = (t.0, (t.1.0, (rest p ps _ t.1.1.0, (rest p ps _ t.1.1.1.0, t.1.1.1.1))))
  widen (entity e) isnt t = (rest p ps _ t.0, λ d c. ⊎_elim (λ q. absurd (isnt d q)) (λ o. t.1 d o) (cases p ps (pair_for s n d) c))

  add : (m : MeaningOf) → pair_for s n p.entity ≡ p → Told ps s n m → Told (p ∷ ps) s n (joined m p.entity)
  add unbound q t = (first_by p ps _ q, λ d c. ⊎_elim (λ e. ap (λ (z : Pair). z.entity) e) (λ o. absurd (t d o)) (cases p ps (pair_for s n d) c))
  add ambiguous q t = (t.0, (t.1.0, (rest p ps _ t.1.1.0, (rest p ps _ t.1.1.1.0, t.1.1.1.1))))
  add (entity d) q t = go (same_entity d p.entity) (entity_decides d p.entity)
    where
      go : (b : Bool) → Decides b (d ≡ p.entity) → Told (p ∷ ps) s n (cond b (entity d) ambiguous)
      go true h = (rest p ps _ t.0, λ x c. ⊎_elim (λ e. ap (λ (z : Pair). z.entity) e ∙ sym (h.0 refl)) (λ o. t.1 x o) (cases p ps (pair_for s n x) c))
      go false h = (d, (p.entity, (rest p ps _ t.0, (first_by p ps _ q, λ e. let z : false ≡ true = h.1 e in cc))))

pub told : (s : Namespace) (n : Identifier) (ps : List Pair) → Told ps s n (meaning_of ps s n)
told s n [] = λ e c. none_in (pair_for s n e) c
told s n (p ∷ ps) = go (told s n ps) (is_for s n p) (for_decides s n p)
  where
    go : Told ps s n (meaning_of ps s n) → (b : Bool) → Decides b (pair_for s n p.entity ≡ p) → Told (p ∷ ps) s n (cond b (joined (meaning_of ps s n) p.entity) (meaning_of ps s n))
    go t true h = add s n p ps (meaning_of ps s n) (h.0 refl) t
    go t false h = widen s n p ps (meaning_of ps s n) (λ x q. let same : x ≡ p.entity = ap (λ (z : Pair). z.entity) q in let z : false ≡ true = h.1 (subst (λ e. pair_for s n e ≡ p) same q) in cc) t

-- what it says of the scope
abbrev pub Meant : Module → List Interface → Namespace → Identifier → MeaningOf → Type 0
Meant m fs s n unbound = IsUnbound m fs s n
Meant m fs s n ambiguous = IsAmbiguous m fs s n
Meant m fs s n (entity e) = Means m fs s n e

pub meant : (m : Module) (fs : List Interface) (ps : List Pair) → IsScopeOf m fs ps → (s : Namespace) (n : Identifier) → Meant m fs s n (meaning_of ps s n)
meant m fs ps scope s n = go (meaning_of ps s n) (told s n ps)
  where
    go : (k : MeaningOf) → Told ps s n k → Meant m fs s n k
    go unbound t = λ e h. t e ((scope (pair_for s n e)).1 h)
    go ambiguous t = (t.0, (t.1.0, ((scope (pair_for s n t.0)).0 t.1.1.0, (scope (pair_for s n t.1.0)).0 t.1.1.1.0, t.1.1.1.1)))
    go (entity e) t = record { in_scope = (scope (pair_for s n e)).0 t.0; alone = λ d h. t.1 d ((scope (pair_for s n d)).1 h) }

-- a name has one meaning
pub one_meaning : (m : Module) (fs : List Interface) (s : Namespace) (n : Identifier) (j k : MeaningOf) → Meant m fs s n j → Meant m fs s n k → j ≡ k
one_meaning m fs s n unbound unbound a b = refl
one_meaning m fs s n unbound ambiguous a b = absurd (a b.0 b.1.1.0)
one_meaning m fs s n unbound (entity e) a b = absurd (a e b.in_scope)
one_meaning m fs s n ambiguous unbound a b = absurd (b a.0 a.1.1.0)
one_meaning m fs s n ambiguous ambiguous a b = refl
one_meaning m fs s n ambiguous (entity e) a b = absurd (a.1.1.2 (b.alone a.0 a.1.1.0 ∙ sym (b.alone a.1.0 a.1.1.1)))
one_meaning m fs s n (entity d) unbound a b = absurd (b d a.in_scope)
one_meaning m fs s n (entity d) ambiguous a b = absurd (b.1.1.2 (a.alone b.0 b.1.1.0 ∙ sym (a.alone b.1.0 b.1.1.1)))
one_meaning m fs s n (entity d) (entity e) a b = ap entity (b.alone d a.in_scope)
