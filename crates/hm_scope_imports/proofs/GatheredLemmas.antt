-- What is gathered of import lists is what they list.
use Rattle.std.proofs.lemmas.Bool.Decides.{nat_tests}
use Rattle.std.proofs.Common.{◌≡◌, ◌==◌, ℕ, true, length, arith, List, [], ◌∷◌, ◌⊎◌, inl, inr, ⊎_elim, refl, sym, ap, ◌∙◌, subst, Contains, map}
use Rattle.hm_types.specs.declared.Entity.{Entity}
use Rattle.hm_types.specs.declared.entries.TypeEntry.{TypeEntry}
use Rattle.hm_types.specs.declared.entries.ConstructorEntry.{ConstructorEntry}
use Rattle.hm_types.specs.Interfaces.{Exports as Interface, AreOrdered}
use Rattle.hm_syntax.specs.Names.{Identifier}
use Rattle.hm_syntax.specs.declared.ast.ImportItem.{ImportItem}
use Rattle.hm_syntax.specs.declared.ast.ImportItem.TheVariants as item
use Rattle.hm_syntax.specs.declared.ast.SubItems.{SubItems}
use Rattle.hm_syntax.specs.declared.ast.SubItems.TheVariants as subs
use Rattle.hm_names.specs.declared.namespace.Namespace.{Namespace}
use Rattle.hm_names.specs.declared.namespace.Namespace.TheVariants.{Types, Constructors, Values}
use Rattle.hm_names.specs.Bindings.{Adds}
use Rattle.hm_names.specs.Entities.{Belongs}
use Rattle.hm_scope_imports.specs.declared.selections.ListUse.{ListUse}
use Rattle.hm_scope_imports.specs.declared.selections.ListUse.TheVariants as list_use
use Rattle.hm_scope_imports.specs.Gathered as gathered
use Rattle.hm_scope_imports.specs.Gathered.{bare, type_name, IsOwned, IsBehind, IsNamedBy, IsOpenedBy}
use Rattle.hm_scope_tables.specs.declared.keys.Key.{Key}
use Rattle.hm_scope_tables.specs.NameSets.{FullName, full_names}
use Rattle.hm_names.specs.Scope as listing
use Rattle.hm_names.specs.Scope.{Lists, Hides}
use Rattle.hm_scope_imports.specs.Selections.{IsListed, ListsOrHides}
use Rattle.hm_names.proofs.AddedPairs.{adds_then, adds_like, adds_none}
use Rattle.hm_names.proofs.DeclaredPairs.{none_in}
use Rattle.hm_scope_tables.proofs.SortedNames.{one_by_name}

-- a constructor of a name that is another type's is not the type's own
pub not_owned : (f : Interface) (owner : Entity) (x : List ℕ) (k : ConstructorEntry) → AreOrdered (map (λ (y : ConstructorEntry). y.name) f.constructors) → Contains f.constructors k → k.name ≡ x → ¬ (k.owner ≡ owner) → ¬ IsOwned f owner x
not_owned f owner x k o c n apart (j, (d, (m, e))) = apart (ap (λ (y : ConstructorEntry). y.owner) (one_by_name (λ (y : ConstructorEntry). y.name) f.constructors k j o c d (n ∙ sym m)) ∙ e)

pub none_owned : (f : Interface) (owner : Entity) (x : List ℕ) → ((k : ConstructorEntry) → Contains f.constructors k → ¬ (k.name ≡ x)) → ¬ IsOwned f owner x
none_owned f owner x none (k, (c, (n, e))) = none k c n

module _ (u : ListUse) (f : Interface) (v : Identifier) where
  pub behind_alone : (old new : List FullName) → u ≡ list_use.Hides → Adds old new (λ n. n ≡ bare Constructors v.text) → Adds old new (λ n. IsBehind u f v n subs.None)
  behind_alone old new h a = adds_like old new (λ n. n ≡ bare Constructors v.text) (λ n. IsBehind u f v n subs.None) (λ n e. gathered.alone h e) (λ n b. back n b) a
    where
      back : (n : FullName) → IsBehind u f v n subs.None → n ≡ bare Constructors v.text
      back n (gathered.alone g e) = e

  pub behind_none : (old : List FullName) (cs : List Identifier) → ((r : TypeEntry) → Contains f.types r → ¬ (r.name ≡ v.text)) → Adds old old (λ n. IsBehind u f v n (subs.Some cs))
  behind_none old cs no_type = adds_none old (λ n. IsBehind u f v n (subs.Some cs)) none
    where
      none : (n : FullName) → IsBehind u f v n (subs.Some cs) → ⊥
      none n (gathered.a_part {r = r} c e k w i) = no_type r c e

  pub behind_parts : (old new : List FullName) (cs : List Identifier) (r : TypeEntry) → AreOrdered (map (λ (y : TypeEntry). y.name) f.types) → Contains f.types r → r.name ≡ v.text
      → Adds old new (λ n. (c : Identifier) × (Contains cs c × (IsOwned f r.entity c.text × (n ≡ bare Constructors c.text)))) → Adds old new (λ n. IsBehind u f v n (subs.Some cs))
  behind_parts old new cs r o k e a = adds_like old new (λ n. (c : Identifier) × (Contains cs c × (IsOwned f r.entity c.text × (n ≡ bare Constructors c.text)))) (λ n. IsBehind u f v n (subs.Some cs))
      (λ n (c, (d, (w, i))). gathered.a_part k e d w i) (λ n b. back n b) a
    where
      back : (n : FullName) → IsBehind u f v n (subs.Some cs) → (c : Identifier) × (Contains cs c × (IsOwned f r.entity c.text × (n ≡ bare Constructors c.text)))
      back n (gathered.a_part {c = c} {r = s} j m d w i) = (c, (d, (subst (λ (y : TypeEntry). IsOwned f y.entity c.text) (one_by_name (λ (y : TypeEntry). y.name) f.types s r o j k (m ∙ sym e)) w, i)))

module _ (u : ListUse) (f : Interface) where
  pub named_value : (old new : List FullName) (v : Identifier) → Adds old new (λ n. n ≡ bare Values v.text) → Adds old new (λ n. IsNamedBy u f n (item.Var v))
  named_value old new v a = adds_like old new (λ n. n ≡ bare Values v.text) (λ n. IsNamedBy u f n (item.Var v)) (λ n e. gathered.a_value e) (λ n b. back n b) a
    where
      back : (n : FullName) → IsNamedBy u f n (item.Var v) → n ≡ bare Values v.text
      back n (gathered.a_value e) = e

  pub named_type : (old mid new : List FullName) (v : Identifier) (s : SubItems) → Adds old mid (λ n. n ≡ bare Types v.text) → Adds mid new (λ n. IsBehind u f v n s) → Adds old new (λ n. IsNamedBy u f n (item.Con v s))
  named_type old mid new v s a b = adds_like old new (λ n. (n ≡ bare Types v.text) ⊎ IsBehind u f v n s) (λ n. IsNamedBy u f n (item.Con v s))
      (λ n h. ⊎_elim (λ e. gathered.a_type e) (λ k. gathered.behind k) h) (λ n h. back n h) (adds_then old mid new (λ n. n ≡ bare Types v.text) (λ n. IsBehind u f v n s) a b)
    where
      back : (n : FullName) → IsNamedBy u f n (item.Con v s) → (n ≡ bare Types v.text) ⊎ IsBehind u f v n s
      back n (gathered.a_type e) = inl e
      back n (gathered.behind k) = inr k

module _ (f : Interface) where
  pub opened_type : (old new : List FullName) (v : Identifier) (r : TypeEntry) → AreOrdered (map (λ (y : TypeEntry). y.name) f.types) → Contains f.types r → r.name ≡ v.text → Adds old new (λ n. n ≡ type_name r.entity) → Adds old new (λ n. IsOpenedBy f n (item.Con v subs.All))
  opened_type old new v r o k e a = adds_like old new (λ n. n ≡ type_name r.entity) (λ n. IsOpenedBy f n (item.Con v subs.All)) (λ n i. gathered.opened k e i) (λ n b. back n b) a
    where
      back : (n : FullName) → IsOpenedBy f n (item.Con v subs.All) → n ≡ type_name r.entity
      back n (gathered.opened {r = s} j m i) = i ∙ ap (λ (y : TypeEntry). type_name y.entity) (one_by_name (λ (y : TypeEntry). y.name) f.types s r o j k (m ∙ sym e))

  pub opened_none : (old : List FullName) (v : Identifier) → ((r : TypeEntry) → Contains f.types r → ¬ (r.name ≡ v.text)) → Adds old old (λ n. IsOpenedBy f n (item.Con v subs.All))
  opened_none old v no_type = adds_none old (λ n. IsOpenedBy f n (item.Con v subs.All)) none
    where
      none : (n : FullName) → IsOpenedBy f n (item.Con v subs.All) → ⊥
      none n (gathered.opened {r = r} c e i) = no_type r c e

-- no keys are no names
pub no_keys : (ks : List Key) → (length ks == 0) ≡ true → full_names ks ≡ []
no_keys [] h = refl
no_keys (k ∷ ks) h = let none : length (k ∷ ks) ≡ 0 = grind (arith, nat_tests) in absurd (omega (arith, none))

-- all together
module _ (f : Interface) (is : List ImportItem) where
  abbrev pub NamedByList : ListUse → FullName → Type 0
  NamedByList u n = (j : ImportItem) × (Contains is j × IsNamedBy u f n j)

  abbrev pub OpenedByList : FullName → Type 0
  OpenedByList n = (j : ImportItem) × (Contains is j × IsOpenedBy f n j)

  abbrev pub OfOpened : List FullName → FullName → Type 0
  OfOpened opened n = (k : ConstructorEntry) × (Contains f.constructors k × (Contains opened (type_name k.owner) × (n ≡ bare Constructors k.name)))

  same_entity : (d e : Entity) → type_name d ≡ type_name e → d ≡ e
  same_entity d e h = let q : Rattle.std.proofs.Common.Some d.«module» ≡ Rattle.std.proofs.Common.Some e.«module» = ap (λ (n : FullName). n.qualifier) h in let t : d.name ≡ e.name = ap (λ (n : FullName). n.text) h in let m : d.«module» ≡ e.«module» = cc in rw (m, t) refl

  part_lists : (t : List ℕ) (c : List ℕ) (r : TypeEntry) → Contains f.types r → r.name ≡ t → IsOwned f r.entity c → Belongs f t c
  part_lists t c r k e (j, (d, (n, o))) = record { type = r; constructor = j; exports_type = k; exports_constructor = d; type_name = e; constructor_name = n; owner = o }

  lists_there : (s : Namespace) (x : List ℕ) (j : ImportItem) → IsNamedBy list_use.Selects f (bare s x) j → Lists f x j s
  lists_there s x (item.Var v) (gathered.a_value e) = subst (λ t. Lists f x (item.Var v) t) (sym (ap (λ (n : FullName). n.space) e)) (listing.a_value (sym (ap (λ (n : FullName). n.text) e)))
  lists_there s x (item.Con v u) (gathered.a_type e) = subst (λ t. Lists f x (item.Con v u) t) (sym (ap (λ (n : FullName). n.space) e)) (listing.a_type (sym (ap (λ (n : FullName). n.text) e)))
  lists_there s x (item.Con v subs.All) (gathered.behind b) = elim b [ ]
  lists_there s x (item.Con v subs.None) (gathered.behind (gathered.alone h e)) = let c : list_use.Selects ≡ list_use.Hides = h in cc
  lists_there s x (item.Con v (subs.Some cs)) (gathered.behind (gathered.a_part {c = c} {r = r} k e d w i)) = subst (λ t. Lists f x (item.Con v (subs.Some cs)) t) (sym (ap (λ (n : FullName). n.space) i))
      (listing.a_constructor d (sym (ap (λ (n : FullName). n.text) i)) (subst (λ t. Belongs f v.text t) (sym (ap (λ (n : FullName). n.text) i)) (part_lists v.text c.text r k e w)))

  hides_there : (s : Namespace) (x : List ℕ) (j : ImportItem) → IsNamedBy list_use.Hides f (bare s x) j → Hides f x j s
  hides_there s x (item.Var v) (gathered.a_value e) = listing.listed (lists_there s x (item.Var v) (gathered.a_value e))
  hides_there s x (item.Con v u) (gathered.a_type e) = listing.listed (lists_there s x (item.Con v u) (gathered.a_type e))
  hides_there s x (item.Con v subs.All) (gathered.behind b) = elim b [ ]
  hides_there s x (item.Con v subs.None) (gathered.behind (gathered.alone h e)) = subst (λ t. Hides f x (item.Con v subs.None) t) (sym (ap (λ (n : FullName). n.space) e)) (listing.alone (sym (ap (λ (n : FullName). n.text) e)))
  hides_there s x (item.Con v (subs.Some cs)) (gathered.behind (gathered.a_part k e d w i)) = listing.listed (lists_there s x (item.Con v (subs.Some cs)) (gathered.behind (gathered.a_part k e d w i)))

  there : (u : ListUse) (s : Namespace) (x : List ℕ) (j : ImportItem) → IsNamedBy u f (bare s x) j → ListsOrHides u f x j s
  there list_use.Hides s x j h = hides_there s x j h
  there list_use.Selects s x j h = lists_there s x j h

  opened_there : (x : List ℕ) (k : ConstructorEntry) (j : ImportItem) → Contains f.constructors k → k.name ≡ x → IsOpenedBy f (type_name k.owner) j → Lists f x j Constructors
  opened_there x k j c n (gathered.opened {v} {r} d e i) = listing.each_constructor (part_lists v.text x r d e (k, (c, (n, same_entity k.owner r.entity i))))

  or_hides : (u : ListUse) (s : Namespace) (x : List ℕ) (j : ImportItem) → Lists f x j s → ListsOrHides u f x j s
  or_hides list_use.Hides s x j h = listing.listed h
  or_hides list_use.Selects s x j h = h

  -- what is listed is gathered
  lists_back : (u : ListUse) (s : Namespace) (x : List ℕ) (j : ImportItem) → Lists f x j s → IsNamedBy u f (bare s x) j ⊎ ((k : ConstructorEntry) × (Contains f.constructors k × (IsOpenedBy f (type_name k.owner) j × (bare s x ≡ bare Constructors k.name))))
  lists_back u s x j (listing.a_value e) = inl (gathered.a_value (ap (λ t. bare Values t) (sym e)))
  lists_back u s x j (listing.a_type e) = inl (gathered.a_type (ap (λ t. bare Types t) (sym e)))
  lists_back u s x j (listing.each_constructor b) = inr (b.constructor, (b.exports_constructor, (gathered.opened b.exports_type b.type_name (ap (λ (t : Entity). type_name t) b.owner), ap (λ t. bare Constructors t) (sym b.constructor_name))))
  lists_back u s x j (listing.a_constructor {c = c} d e b) = inl (gathered.behind (gathered.a_part b.exports_type b.type_name d (b.constructor, (b.exports_constructor, (b.constructor_name ∙ sym e, b.owner))) (ap (λ t. bare Constructors t) (sym e))))

  hides_back : (s : Namespace) (x : List ℕ) (j : ImportItem) → Hides f x j s → IsNamedBy list_use.Hides f (bare s x) j ⊎ ((k : ConstructorEntry) × (Contains f.constructors k × (IsOpenedBy f (type_name k.owner) j × (bare s x ≡ bare Constructors k.name))))
  hides_back s x j (listing.listed h) = lists_back list_use.Hides s x j h
  hides_back s x j (listing.alone e) = inl (gathered.behind (gathered.alone refl (ap (λ t. bare Constructors t) (sym e))))

  back : (u : ListUse) (s : Namespace) (x : List ℕ) (j : ImportItem) → ListsOrHides u f x j s → IsNamedBy u f (bare s x) j ⊎ ((k : ConstructorEntry) × (Contains f.constructors k × (IsOpenedBy f (type_name k.owner) j × (bare s x ≡ bare Constructors k.name))))
  back list_use.Hides s x j h = hides_back s x j h
  back list_use.Selects s x j h = lists_back list_use.Selects s x j h

  pub listed_is : (u : ListUse) (opened names all : List FullName) → Adds [] names (NamedByList u) → Adds [] opened OpenedByList → Adds names all (OfOpened opened) → IsListed u f is all
  listed_is u opened names all a b c s x = (forth, back_again)
    where
      forth : Contains all (bare s x) → (j : ImportItem) × (Contains is j × ListsOrHides u f x j s)
      forth h = ⊎_elim
          (λ m. ⊎_elim (λ e. absurd (none_in (bare s x) e)) (λ (j, (k, w)). (j, (k, there u s x j w))) ((a (bare s x)).0 m))
          (λ (k, (d, (o, i))). ⊎_elim (λ e. absurd (none_in (type_name k.owner) e))
          (λ (j, (l, w)). (j, (l, or_hides u s x j (subst (λ t. Lists f x j t) (sym (ap (λ (n : FullName). n.space) i)) (opened_there x k j d (sym (ap (λ (n : FullName). n.text) i)) w)))))
          ((b (type_name k.owner)).0 o))
          ((c (bare s x)).0 h)

      back_again : (j : ImportItem) × (Contains is j × ListsOrHides u f x j s) → Contains all (bare s x)
      back_again (j, (k, h)) = ⊎_elim
          (λ w. (c (bare s x)).1 (inl ((a (bare s x)).1 (inr (j, (k, w))))))
          (λ (q, (d, (w, i))). (c (bare s x)).1 (inr (q, (d, ((b (type_name q.owner)).1 (inr (j, (k, w))), i)))))
          (back u s x j h)

  -- where no type is listed with all its constructors
  pub all_named : (names opened : List FullName) → opened ≡ [] → Adds names names (OfOpened opened)
  all_named names opened none = adds_none names (OfOpened opened) (λ n (k, (c, (o, i))). none_in (type_name k.owner) (subst (λ l. Contains l (type_name k.owner)) none o))
