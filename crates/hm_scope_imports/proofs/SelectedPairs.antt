-- The pairs that imports bring in.
use Rattle.std.proofs.Common.{◌≡◌, ℕ, Bool, false, List, [], Option, Some, None, ◌⊎◌, inl, inr, ⊎_elim, refl, sym, ap, ◌∙◌, subst, Contains, Bor, map}
use Rattle.hm_types.specs.declared.Entity.{Entity}
use Rattle.hm_types.specs.declared.entries.TypeEntry.{TypeEntry}
use Rattle.hm_types.specs.declared.entries.SynonymEntry.{SynonymEntry}
use Rattle.hm_types.specs.declared.entries.ConstructorEntry.{ConstructorEntry}
use Rattle.hm_types.specs.declared.entries.ValueEntry.{ValueEntry}
use Rattle.hm_types.specs.Interfaces.{Exports as Interface, AreOrdered}
use Rattle.hm_syntax.specs.declared.ast.Import.{Import}
use Rattle.hm_syntax.specs.declared.ast.ImportList.{ImportList}
use Rattle.hm_syntax.specs.declared.ast.ImportList.TheVariants as list
use Rattle.hm_syntax.specs.declared.ast.ImportItem.{ImportItem}
use Rattle.hm_syntax.specs.declared.ast.Module.{Module}
use Rattle.hm_names.specs.declared.namespace.Namespace.{Namespace}
use Rattle.hm_names.specs.declared.namespace.Namespace.TheVariants.{Types, Constructors, Values}
use Rattle.hm_scope_imports.specs.declared.selections.Selection.{Selection}
use Rattle.hm_names.specs.Bindings.{Pair, Adds, IsPairOf, IsBroughtPair, IsOwnPair, IsScopeOf}
use Rattle.hm_names.specs.Entities.{Exports, a_type, a_synonym, a_constructor, a_value, own}
use Rattle.hm_names.specs.Scope.{Lists, Hides, Brings, every, only, hiding, Imports, written, added, InScope, declared, imported, known_as, import_prelude, prelude_name}
use Rattle.hm_scope_imports.specs.declared.selections.ListUse.TheVariants as list_use
use Rattle.hm_scope_imports.specs.Selections.{Selects, IsSelected, IsSelectionOf, IsSelectedPair, IsSelectedAs, IsNamedPair, IsBroughtFrom, IsImportedPair, IsListed}
use Rattle.hm_scope_imports.specs.Gathered.{bare}
use Rattle.hm_scope_imports.specs.declared.selections.Selection.TheVariants as choose
use Rattle.hm_scope_tables.specs.declared.keys.Key.{Key}
use Rattle.hm_scope_tables.specs.NameSets.{FullName, full_name, full_names}
use Rattle.hm_scope_tables.proofs.SortedNames.{one_by_name}
use Rattle.hm_scope_imports.specs.Selections as select
use Rattle.hm_names.proofs.AddedPairs.{adds_none, adds_like, adds_then, ForEach}
use Rattle.hm_names.proofs.DeclaredPairs.{contains_map}

-- what entries of one name give
module _ {E : Type 0} (name : E → List ℕ) (entity : E → Entity) (entries : List E) (σ : Selection) (qualified : Bool) (under : List ℕ) (s : Namespace) (x : List ℕ) where
  abbrev OfEntry : E → Pair → Type 0
  OfEntry r p = Selects σ s (name r) × IsPairOf qualified under s (name r) (entity r) p

  pub named_none : (old : List Pair) → ((r : E) → Contains entries r → ¬ (name r ≡ x)) → Adds old old (IsNamedPair name entity entries σ qualified under s x)
  named_none old none = adds_none old (IsNamedPair name entity entries σ qualified under s x) (λ p (r, (c, (n, h))). none r c n)

  pub named_one : (old new : List Pair) (r : E) → AreOrdered (map name entries) → Contains entries r → name r ≡ x → Adds old new (OfEntry r) → Adds old new (IsNamedPair name entity entries σ qualified under s x)
  named_one old new r o c n a = adds_like old new (OfEntry r) (IsNamedPair name entity entries σ qualified under s x)
      (λ p h. (r, (c, (n, h))))
      (λ p (q, (d, (m, h))). subst (λ (y : E). OfEntry y p) (one_by_name name entries q r o d c (m ∙ sym n)) h) a

module _ (f : Interface) (σ : Selection) (qualified : Bool) (under : List ℕ) where
  abbrev pub Selected : Namespace → List ℕ → Entity → Pair → Type 0
  Selected s x e p = Selects σ s x × IsPairOf qualified under s x e p

  there : (s : Namespace) (x : List ℕ) (e : Entity) (p : Pair) → Exports f x e s → Selected s x e p → IsSelectedPair f σ qualified under p
  there s x e p exported (selected, i) = record {
    exported = subst (λ t. Exports f p.text p.entity t) (sym i.space_is) (subst (λ t. Exports f t p.entity s) (sym i.text_is) (subst (λ t. Exports f x t s) (sym i.entity_is) exported));
    selected = subst (λ t. Selects σ t p.text) (sym i.space_is) (subst (λ t. Selects σ s t) (sym i.text_is) selected);
    pair = record { space_is = refl; qualifier_is = i.qualifier_is; text_is = refl; entity_is = refl };
  }

  moved : (s : Namespace) (x y : List ℕ) (e d : Entity) (p : Pair) → x ≡ y → e ≡ d → Selected s x e p → Selected s y d p
  moved s x y e d p a b h = subst (λ t. Selected s t d p) a (subst (λ t. Selected s x t p) b h)

  abbrev pub TypesOf : Pair → Type 0
  TypesOf = ForEach (λ (r : TypeEntry). Selected Types r.name r.entity) f.types

  abbrev pub SynonymsOf : Pair → Type 0
  SynonymsOf = ForEach (λ (r : SynonymEntry). Selected Types r.name r.entity) f.synonyms

  abbrev pub ConstructorsOf : Pair → Type 0
  ConstructorsOf = ForEach (λ (r : ConstructorEntry). Selected Constructors r.name r.entity) f.constructors

  abbrev pub ValuesOf : Pair → Type 0
  ValuesOf = ForEach (λ (r : ValueEntry). Selected Values r.name r.entity) f.values

  back : (s : Namespace) (x : List ℕ) (e : Entity) (p : Pair) → Exports f x e s → Selected s x e p → ((TypesOf p ⊎ SynonymsOf p) ⊎ ConstructorsOf p) ⊎ ValuesOf p
  back s x e p (a_type {r = r} c n k) h = inl (inl (inl (r, (c, moved Types x r.name e r.entity p (sym n) (sym k) h))))
  back s x e p (a_synonym {r = r} c n k) h = inl (inl (inr (r, (c, moved Types x r.name e r.entity p (sym n) (sym k) h))))
  back s x e p (a_constructor {r = r} c n k) h = inl (inr (r, (c, moved Constructors x r.name e r.entity p (sym n) (sym k) h)))
  back s x e p (a_value {r = r} c n k) h = inr (r, (c, moved Values x r.name e r.entity p (sym n) (sym k) h))

  pub selected_adds : (a b c d e : List Pair) → Adds a b TypesOf → Adds b c SynonymsOf → Adds c d ConstructorsOf → Adds d e ValuesOf → Adds a e (IsSelectedPair f σ qualified under)
  selected_adds a b c d e one two three four = adds_like a e (λ p. ((TypesOf p ⊎ SynonymsOf p) ⊎ ConstructorsOf p) ⊎ ValuesOf p) (IsSelectedPair f σ qualified under)
      (λ p h. ⊎_elim (λ h. ⊎_elim (λ h. ⊎_elim
      (λ (r, (k, q)). there Types r.name r.entity p (a_type k refl refl) q)
      (λ (r, (k, q)). there Types r.name r.entity p (a_synonym k refl refl) q) h)
      (λ (r, (k, q)). there Constructors r.name r.entity p (a_constructor k refl refl) q) h)
      (λ (r, (k, q)). there Values r.name r.entity p (a_value k refl refl) q) h)
      (λ p i. back p.space p.text p.entity p i.exported (i.selected, i.pair))
      (adds_then a d e (λ p. (TypesOf p ⊎ SynonymsOf p) ⊎ ConstructorsOf p) ValuesOf (adds_then a c d (λ p. TypesOf p ⊎ SynonymsOf p) ConstructorsOf (adds_then a b c TypesOf SynonymsOf one two) three) four)

  module _ (x : List ℕ) where
    abbrev pub TypesNamed : Pair → Type 0
    TypesNamed = IsNamedPair (λ (r : TypeEntry). r.name) (λ r. r.entity) f.types σ qualified under Types x

    abbrev pub SynonymsNamed : Pair → Type 0
    SynonymsNamed = IsNamedPair (λ (r : SynonymEntry). r.name) (λ r. r.entity) f.synonyms σ qualified under Types x

    abbrev pub ConstructorsNamed : Pair → Type 0
    ConstructorsNamed = IsNamedPair (λ (r : ConstructorEntry). r.name) (λ r. r.entity) f.constructors σ qualified under Constructors x

    abbrev pub ValuesNamed : Pair → Type 0
    ValuesNamed = IsNamedPair (λ (r : ValueEntry). r.name) (λ r. r.entity) f.values σ qualified under Values x

    selected_as : (s : Namespace) (y : List ℕ) (e : Entity) (p : Pair) → y ≡ x → Exports f x e s → Selected s y e p → IsSelectedAs f σ qualified under s x p
    selected_as s y e p n exported (selected, i) = record {
      exported = subst (λ t. Exports f x t s) (sym i.entity_is) exported;
      selected = subst (λ t. Selects σ s t) n selected;
      pair = record { space_is = i.space_is; qualifier_is = i.qualifier_is; text_is = i.text_is ∙ n; entity_is = refl };
    }

    selected_of : (s : Namespace) (y : List ℕ) (e : Entity) (p : Pair) → y ≡ x → e ≡ p.entity → IsSelectedAs f σ qualified under s x p → Selected s y e p
    selected_of s y e p n k h = (subst (λ t. Selects σ s t) (sym n) h.selected, record { space_is = h.pair.space_is; qualifier_is = h.pair.qualifier_is; text_is = h.pair.text_is ∙ sym n; entity_is = sym k })

    types_back : (p : Pair) → IsSelectedAs f σ qualified under Types x p → Exports f x p.entity Types → TypesNamed p ⊎ SynonymsNamed p
    types_back p h (a_type {r = r} c n k) = inl (r, (c, (n, selected_of Types r.name r.entity p n k h)))
    types_back p h (a_synonym {r = r} c n k) = inr (r, (c, (n, selected_of Types r.name r.entity p n k h)))

    constructors_back : (p : Pair) → IsSelectedAs f σ qualified under Constructors x p → Exports f x p.entity Constructors → ConstructorsNamed p
    constructors_back p h (a_constructor {r = r} c n k) = (r, (c, (n, selected_of Constructors r.name r.entity p n k h)))

    values_back : (p : Pair) → IsSelectedAs f σ qualified under Values x p → Exports f x p.entity Values → ValuesNamed p
    values_back p h (a_value {r = r} c n k) = (r, (c, (n, selected_of Values r.name r.entity p n k h)))

    pub type_adds : (old mid new : List Pair) → Adds old mid TypesNamed → Adds mid new SynonymsNamed → Adds old new (IsSelectedAs f σ qualified under Types x)
    type_adds old mid new a b = adds_like old new (λ p. TypesNamed p ⊎ SynonymsNamed p) (IsSelectedAs f σ qualified under Types x)
        (λ p h. ⊎_elim (λ (r, (c, (n, q))). selected_as Types r.name r.entity p n (a_type c n refl) q) (λ (r, (c, (n, q))). selected_as Types r.name r.entity p n (a_synonym c n refl) q) h)
        (λ p h. types_back p h h.exported) (adds_then old mid new TypesNamed SynonymsNamed a b)

    pub constructor_adds : (old new : List Pair) → Adds old new ConstructorsNamed → Adds old new (IsSelectedAs f σ qualified under Constructors x)
    constructor_adds old new a = adds_like old new ConstructorsNamed (IsSelectedAs f σ qualified under Constructors x)
        (λ p (r, (c, (n, q))). selected_as Constructors r.name r.entity p n (a_constructor c n refl) q) (λ p h. constructors_back p h h.exported) a

    pub value_adds : (old new : List Pair) → Adds old new ValuesNamed → Adds old new (IsSelectedAs f σ qualified under Values x)
    value_adds old new a = adds_like old new ValuesNamed (IsSelectedAs f σ qualified under Values x)
        (λ p (r, (c, (n, q))). selected_as Values r.name r.entity p n (a_value c n refl) q) (λ p h. values_back p h h.exported) a

  -- what is exported under the names that a list selects is all that it selects
  pub listed_adds : (old new : List Pair) (keys : List Key) → σ ≡ choose.Only (full_names keys) → Adds old new (ForEach (λ (k : Key). IsSelectedAs f σ qualified under k.space k.text.now) keys) → Adds old new (IsSelectedPair f σ qualified under)
  listed_adds old new keys is a = adds_like old new (ForEach (λ (k : Key). IsSelectedAs f σ qualified under k.space k.text.now) keys) (IsSelectedPair f σ qualified under)
      (λ p (k, (c, h)). there k.space k.text.now p.entity p h.exported (h.selected, h.pair))
      (λ p h. let b = contains_map full_name keys (bare p.space p.text) (subst (λ (t : Selection). Selects t p.space p.text) is h.selected) in
      let spaces : b.0.space ≡ p.space = ap (λ (n : FullName). n.space) b.1.1 in
      let texts : b.0.text.now ≡ p.text = ap (λ (n : FullName). n.text) b.1.1 in
      (b.0, (b.1.0, subst (λ t. IsSelectedAs f σ qualified under t b.0.text.now p) (sym spaces) (subst (λ t. IsSelectedAs f σ qualified under p.space t p) (sym texts) (record { exported = h.exported; selected = h.selected; pair = h.pair }))))) a

-- an import brings in what its list selects of the exports
brings_there : (f : Interface) (i : Import) (s : Namespace) (x : List ℕ) (e : Entity) (l : ImportList) → i.list ≡ l → IsSelected f s x l → Exports f x e s → Brings f i s x e
brings_there f i s x e list.Every h select.every k = every h k
brings_there f i s x e (list.Only is) h (select.only c n) k = only h c n k
brings_there f i s x e (list.Hiding is) h (select.hiding n) k = hiding h n k

selected_back : (f : Interface) (i : Import) (s : Namespace) (x : List ℕ) (e : Entity) → Brings f i s x e → IsSelected f s x i.list × Exports f x e s
selected_back f i s x e (every h k) = (subst (λ l. IsSelected f s x l) (sym h) select.every, k)
selected_back f i s x e (only h c n k) = (subst (λ l. IsSelected f s x l) (sym h) (select.only c n), k)
selected_back f i s x e (hiding h n k) = (subst (λ l. IsSelected f s x l) (sym h) (select.hiding n), k)

pub brought_adds : (old new : List Pair) (f : Interface) (i : Import) (σ : Selection) → IsSelectionOf f i.list σ → Adds old new (IsSelectedPair f σ i.qualified (known_as i)) → Adds old new (IsBroughtPair f i)
brought_adds old new f i σ sel a = adds_like old new (IsSelectedPair f σ i.qualified (known_as i)) (IsBroughtPair f i)
    (λ p h. record { brought = brings_there f i p.space p.text p.entity i.list refl ((sel p.space p.text).0 h.selected) h.exported; pair = h.pair })
    (λ p h. let b = selected_back f i p.space p.text p.entity h.brought in record { exported = b.1; selected = (sel p.space p.text).1 b.0; pair = h.pair }) a

pub every_selected : (f : Interface) → IsSelectionOf f list.Every Rattle.hm_scope_imports.specs.declared.selections.Selection.TheVariants.Every
every_selected f s x = (λ _. select.every, λ _. tt)

pub only_selected : (f : Interface) (is : List ImportItem) (names : List FullName) → IsListed list_use.Selects f is names → IsSelectionOf f (list.Only is) (choose.Only names)
only_selected f is names h s x = (λ c. let r = (h s x).0 c in select.only r.1.0 r.1.1, λ sel. (h s x).1 (back sel))
  where
    back : IsSelected f s x (list.Only is) → (j : ImportItem) × (Contains is j × Lists f x j s)
    back (select.only {j = j} c n) = (j, (c, n))

pub hiding_selected : (f : Interface) (is : List ImportItem) (names : List FullName) → IsListed list_use.Hides f is names → IsSelectionOf f (list.Hiding is) (choose.Hiding names)
hiding_selected f is names h s x = (λ n. select.hiding (λ j c k. n ((h s x).1 (j, (c, k)))), λ sel c. let r = (h s x).0 c in back sel r.0 r.1.0 r.1.1)
  where
    back : IsSelected f s x (list.Hiding is) → (j : ImportItem) → Contains is j → ¬ Hides f x j s
    back (select.hiding n) = n

-- what an import brings in from lent interfaces
pub from_adds : (old new : List Pair) (fs : List (Bor Interface)) (i : Import) (n : List ℕ) → i.name.text ≡ n → Adds old new (ForEach (λ (f : Bor Interface) p. (f.now.name ≡ n) × IsBroughtPair f.now i p) fs) → Adds old new (IsBroughtFrom (map (λ f. f.now) fs) i)
from_adds old new fs i n is a = adds_like old new (ForEach (λ (f : Bor Interface) p. (f.now.name ≡ n) × IsBroughtPair f.now i p) fs) (IsBroughtFrom (map (λ f. f.now) fs) i)
    (λ p (f, (c, (e, h))). record { interface = f.now; stands = Rattle.hm_names.proofs.DeclaredPairs.map_contains (λ (b : Bor Interface). b.now) fs f c; same_name = e ∙ sym is; brought = h })
    (λ p h. let b = contains_map (λ (b : Bor Interface). b.now) fs h.interface h.stands in
    (b.0, (b.1.0, (ap (λ (g : Interface). g.name) b.1.1 ∙ (h.same_name ∙ is), subst (λ g. IsBroughtPair g i p) (sym b.1.1) h.brought)))) a

-- all imports: those that are written, and that of Prelude where none names it
module _ (m : Module) (fs : List Interface) where
  abbrev Written : Pair → Type 0
  Written = ForEach (λ (i : Import) p. IsBroughtFrom fs i p) m.header.imports

  pub written_adds : (old new : List Pair) → (i : Import) × (Contains m.header.imports i × (i.name.text ≡ prelude_name)) → Adds old new Written → Adds old new (IsImportedPair m fs)
  written_adds old new (j, (c, e)) a = adds_like old new Written (IsImportedPair m fs) (λ p (i, (k, h)). record { import_of = i; imports = written k; brought = h })
      (λ p h. back p h.import_of h.imports h.brought) a
    where
      back : (p : Pair) (i : Import) → Imports m i → IsBroughtFrom fs i p → Written p
      back p i (written k) h = (i, (k, h))
      back p i (added n is) h = absurd (n j c e)

  pub all_adds : (old mid new : List Pair) → ¬ ((i : Import) × (Contains m.header.imports i × (i.name.text ≡ prelude_name))) → Adds old mid Written → Adds mid new (IsBroughtFrom fs import_prelude) → Adds old new (IsImportedPair m fs)
  all_adds old mid new none a b = adds_like old new (λ p. Written p ⊎ IsBroughtFrom fs import_prelude p) (IsImportedPair m fs)
      (λ p h. ⊎_elim (λ (i, (k, h)). record { import_of = i; imports = written k; brought = h }) (λ h. record { import_of = import_prelude; imports = added (λ j c e. none (j, (c, e))) refl; brought = h }) h)
      (λ p h. back p h.import_of h.imports h.brought) (adds_then old mid new Written (IsBroughtFrom fs import_prelude) a b)
    where
      back : (p : Pair) (i : Import) → Imports m i → IsBroughtFrom fs i p → Written p ⊎ IsBroughtFrom fs import_prelude p
      back p i (written k) h = inl (i, (k, h))
      back p i (added n is) h = inr (subst (λ j. IsBroughtFrom fs j p) is h)

  -- the scope has what the module declares and what its imports bring in
  pub scope_is : (pairs mid : List Pair) → Adds [] mid (IsOwnPair m) → Adds mid pairs (IsImportedPair m fs) → IsScopeOf m fs pairs
  scope_is pairs mid a b p = (
    (λ h. ⊎_elim (λ e. absurd (Rattle.hm_names.proofs.DeclaredPairs.none_in p e)) (λ h. ⊎_elim own_in imported_in h) ((both p).0 h)),
    (λ h. (both p).1 (inr (back p.space p.qualifier p.text p.entity refl refl refl refl h))),
  )
    where
      both : Adds [] pairs (λ p. IsOwnPair m p ⊎ IsImportedPair m fs p)
      both = adds_then [] mid pairs (IsOwnPair m) (IsImportedPair m fs) a b

      bare_or : ((p.qualifier ≡ None) × (false ≡ false)) ⊎ (p.qualifier ≡ Some m.header.name.text) → (p.qualifier ≡ None) ⊎ (p.qualifier ≡ Some m.header.name.text)
      bare_or h = ⊎_elim (λ b. inl b.0) inr h

      own_in : IsOwnPair m p → InScope m fs p.space p.qualifier p.text p.entity
      own_in h = declared h.declared (bare_or h.pair.qualifier_is) h.pair.entity_is

      imported_in : IsImportedPair m fs p → InScope m fs p.space p.qualifier p.text p.entity
      imported_in h = imported h.imports h.brought.stands h.brought.same_name h.brought.brought.brought h.brought.brought.pair.qualifier_is

      back : (s : Namespace) (q : Option (List ℕ)) (x : List ℕ) (e : Entity) → p.space ≡ s → p.qualifier ≡ q → p.text ≡ x → p.entity ≡ e → InScope m fs s q x e → IsOwnPair m p ⊎ IsImportedPair m fs p
      back s q x e es eq ex ee (declared d o is) = inl (record {
        declared = subst (λ t. Rattle.hm_names.specs.Entities.Declares m p.text t) (sym es) (subst (λ t. Rattle.hm_names.specs.Entities.Declares m t s) (sym ex) d);
        pair = record { space_is = refl; qualifier_is = ⊎_elim (λ n. inl (eq ∙ n, refl)) (λ n. inr (eq ∙ n)) o; text_is = refl; entity_is = ee ∙ (is ∙ ap (λ t. own m t) (sym ex)) };
      })
      back s q x e es eq ex ee (imported {i} {f} k c n b o) = inr (record {
        import_of = i;
        imports = k;
        brought = record {
          interface = f;
          stands = c;
          same_name = n;
          brought = record {
            brought = subst (λ t. Brings f i t p.text p.entity) (sym es) (subst (λ t. Brings f i s t p.entity) (sym ex) (subst (λ t. Brings f i s x t) (sym ee) b));
            pair = record { space_is = refl; qualifier_is = ⊎_elim (λ n. inl (eq ∙ n.0, n.1)) (λ n. inr (eq ∙ n)) o; text_is = refl; entity_is = refl };
          };
        };
      })
