-- Each scope is a list.
use Rattle.std.proofs.Common.{◌≡◌, ℕ, Bool, true, false, List, Option, None, Some, ◌⊎◌, ⊎_elim, inl, inr, refl, sym, subst, Contains}
use Rattle.std.specs.Prelude.{◌↔◌}
use Rattle.hm_types.specs.declared.Entity.{Entity}
use Rattle.hm_types.specs.declared.entries.TypeEntry.{TypeEntry}
use Rattle.hm_types.specs.declared.entries.SynonymEntry.{SynonymEntry}
use Rattle.hm_types.specs.declared.entries.ConstructorEntry.{ConstructorEntry}
use Rattle.hm_types.specs.declared.entries.ValueEntry.{ValueEntry}
use Rattle.hm_types.specs.Interfaces.{Exports as Interface}
use Rattle.hm_syntax.specs.Names.{Identifier}
use Rattle.hm_syntax.specs.Trees.{DataConstructor, Declaration, data_declaration, newtype_declaration, synonym_declaration, signature, clause, pattern_binding}
use Rattle.hm_syntax.specs.declared.ast.Module.{Module}
use Rattle.hm_syntax.specs.declared.ast.Import.{Import}
use Rattle.hm_syntax.specs.declared.ast.ImportItem.{ImportItem}
use Rattle.hm_syntax.specs.declared.ast.ImportItem.TheVariants as item
use Rattle.hm_syntax.specs.declared.ast.ImportList.{ImportList}
use Rattle.hm_syntax.specs.declared.ast.ImportList.TheVariants as list
use Rattle.hm_syntax.specs.declared.ast.SubItems.{SubItems}
use Rattle.hm_syntax.specs.declared.ast.SubItems.TheVariants as subs
use Rattle.hm_names.specs.declared.namespace.Namespace.{Namespace}
use Rattle.hm_names.specs.declared.namespace.Namespace.TheVariants.{Types, Constructors, Values}
use Rattle.hm_names.specs.Bindings.{Pair, IsScopeOf}
use Rattle.hm_names.specs.Variables.{pattern_variables}
use Rattle.hm_names.specs.Entities.{Exports, Belongs, DeclaredBy, Declares, constructor_list, constructor_name, own}
use Rattle.hm_names.specs.Entities as entity
use Rattle.hm_names.specs.Scope.{Lists, Hides, Brings, every, only, hiding, prelude_name, import_prelude, Imports, written, added, known_as, InScope, declared, imported}
use Rattle.hm_names.specs.Scope as scope
use Rattle.hm_names.proofs.Members.{text_discrete, entity_discrete}
use Rattle.hm_names.proofs.Listings.{Listed, same_set, none_listed, one_listed, list_listed, either_listed, some_of, if_listed, some_dec, both_dec, not_dec, same_dec}

-- What a declaration declares

abbrev called : Namespace → List ℕ → Namespace × List ℕ
called s x = (s, x)

abbrev Declared : Declaration → (Namespace × List ℕ) → Type 0
Declared d n = DeclaredBy n.1 d n.0

declared_by : (d : Declaration) → Listed (Declared d)
declared_by (data_declaration n ps cs) =
    same_set (λ k. (k ≡ called Types n.text) ⊎ ((c : DataConstructor) × (Contains (constructor_list cs) c × (k ≡ called Constructors (constructor_name c).text)))) (Declared (data_declaration n ps cs))
    (λ k. (
      (λ h. ⊎_elim (λ e. subst (Declared (data_declaration n ps cs)) (sym e) (entity.a_data_type refl)) (λ r. subst (Declared (data_declaration n ps cs)) (sym r.1.1) (entity.a_constructor r.1.0 refl)) h),
      (λ h. back k.0 k.1 h),
    ))
    (either_listed (λ k. k ≡ called Types n.text) (λ k. (c : DataConstructor) × (Contains (constructor_list cs) c × (k ≡ called Constructors (constructor_name c).text))) (one_listed (called Types n.text))
    (some_of (λ c k. k ≡ called Constructors (constructor_name c).text) (constructor_list cs) (λ c. one_listed (called Constructors (constructor_name c).text))))
  where
    back : (s : Namespace) (x : List ℕ) → DeclaredBy x (data_declaration n ps cs) s → (called s x ≡ called Types n.text) ⊎ ((c : DataConstructor) × (Contains (constructor_list cs) c × (called s x ≡ called Constructors (constructor_name c).text)))
    back Types x (entity.a_data_type e) = inl (λ i. (Types, sym e i))
    back Constructors x (entity.a_constructor {c} h e) = inr (c, (h, λ i. (Constructors, sym e i)))
    back Values x h = elim h [ ]
declared_by (newtype_declaration n ps c) =
    same_set (λ k. (k ≡ called Types n.text) ⊎ (k ≡ called Constructors (constructor_name c).text)) (Declared (newtype_declaration n ps c))
    (λ k. (
      (λ h. ⊎_elim (λ e. subst (Declared (newtype_declaration n ps c)) (sym e) (entity.a_newtype refl)) (λ e. subst (Declared (newtype_declaration n ps c)) (sym e) (entity.a_newtype_constructor refl)) h),
      (λ h. back k.0 k.1 h),
    ))
    (either_listed (λ k. k ≡ called Types n.text) (λ k. k ≡ called Constructors (constructor_name c).text) (one_listed (called Types n.text)) (one_listed (called Constructors (constructor_name c).text)))
  where
    back : (s : Namespace) (x : List ℕ) → DeclaredBy x (newtype_declaration n ps c) s → (called s x ≡ called Types n.text) ⊎ (called s x ≡ called Constructors (constructor_name c).text)
    back Types x (entity.a_newtype e) = inl (λ i. (Types, sym e i))
    back Constructors x (entity.a_newtype_constructor e) = inr (λ i. (Constructors, sym e i))
    back Values x h = elim h [ ]
declared_by (synonym_declaration n ps t) =
    same_set (λ k. k ≡ called Types n.text) (Declared (synonym_declaration n ps t)) (λ k. ((λ e. subst (Declared (synonym_declaration n ps t)) (sym e) (entity.a_synonym refl)), (λ h. back k.0 k.1 h))) (one_listed (called Types n.text))
  where
    back : (s : Namespace) (x : List ℕ) → DeclaredBy x (synonym_declaration n ps t) s → called s x ≡ called Types n.text
    back Types x (entity.a_synonym e) = λ i. (Types, sym e i)
    back Constructors x h = elim h [ ]
    back Values x h = elim h [ ]
declared_by (signature ns t) = none_listed (Declared (signature ns t)) (λ k h. no_name k.0 k.1 h)
  where
    no_name : (s : Namespace) (x : List ℕ) → ¬ (DeclaredBy x (signature ns t) s)
    no_name s x h = elim h [ ]
declared_by (clause n ps q) =
    same_set (λ k. k ≡ called Values n.text) (Declared (clause n ps q)) (λ k. ((λ e. subst (Declared (clause n ps q)) (sym e) (entity.a_variable refl)), (λ h. back k.0 k.1 h))) (one_listed (called Values n.text))
  where
    back : (s : Namespace) (x : List ℕ) → DeclaredBy x (clause n ps q) s → called s x ≡ called Values n.text
    back Values x (entity.a_variable e) = λ i. (Values, sym e i)
    back Types x h = elim h [ ]
    back Constructors x h = elim h [ ]
declared_by (pattern_binding l c p q) =
    same_set (λ k. (n : Identifier) × (Contains (pattern_variables p) n × (k ≡ called Values n.text))) (Declared (pattern_binding l c p q))
    (λ k. ((λ r. subst (Declared (pattern_binding l c p q)) (sym r.1.1) (entity.a_matched_variable r.1.0 refl)), (λ h. back k.0 k.1 h)))
    (some_of (λ n k. k ≡ called Values n.text) (pattern_variables p) (λ n. one_listed (called Values n.text)))
  where
    back : (s : Namespace) (x : List ℕ) → DeclaredBy x (pattern_binding l c p q) s → (n : Identifier) × (Contains (pattern_variables p) n × (called s x ≡ called Values n.text))
    back Values x (entity.a_matched_variable {n} h e) = (n, (h, λ i. (Values, sym e i)))
    back Types x h = elim h [ ]
    back Constructors x h = elim h [ ]

-- What an interface exports

abbrev Export : Type 0
Export = Namespace × (List ℕ × Entity)

abbrev given : Namespace → List ℕ → Entity → Export
given s x e = (s, (x, e))

abbrev Exported : Interface → Export → Type 0
Exported f t = Exports f t.1.0 t.1.1 t.0

module _ (f : Interface) where
  abbrev OfTypes : Export → Type 0
  OfTypes t = (r : TypeEntry) × (Contains f.types r × (t ≡ (given Types r.name r.entity)))

  abbrev OfSynonyms : Export → Type 0
  OfSynonyms t = (r : SynonymEntry) × (Contains f.synonyms r × (t ≡ (given Types r.name r.entity)))

  abbrev OfConstructors : Export → Type 0
  OfConstructors t = (r : ConstructorEntry) × (Contains f.constructors r × (t ≡ (given Constructors r.name r.entity)))

  abbrev OfValues : Export → Type 0
  OfValues t = (r : ValueEntry) × (Contains f.values r × (t ≡ (given Values r.name r.entity)))

  abbrev OfAll : Export → Type 0
  OfAll t = OfTypes t ⊎ (OfSynonyms t ⊎ (OfConstructors t ⊎ OfValues t))

  there : (t : Export) → OfAll t → Exported f t
  there t (inl h) = subst (Exported f) (sym h.1.1) (entity.a_type h.1.0 refl refl)
  there t (inr (inl h)) = subst (Exported f) (sym h.1.1) (entity.a_synonym h.1.0 refl refl)
  there t (inr (inr (inl h))) = subst (Exported f) (sym h.1.1) (entity.a_constructor h.1.0 refl refl)
  there t (inr (inr (inr h))) = subst (Exported f) (sym h.1.1) (entity.a_value h.1.0 refl refl)

  back : (s : Namespace) (x : List ℕ) (e : Entity) → Exports f x e s → OfAll (given s x e)
  back Types x e (entity.a_type {r} c n q) = inl (r, (c, λ i. (Types, (sym n i, sym q i))))
  back Types x e (entity.a_synonym {r} c n q) = inr (inl (r, (c, λ i. (Types, (sym n i, sym q i)))))
  back Constructors x e (entity.a_constructor {r} c n q) = inr (inr (inl (r, (c, λ i. (Constructors, (sym n i, sym q i))))))
  back Values x e (entity.a_value {r} c n q) = inr (inr (inr (r, (c, λ i. (Values, (sym n i, sym q i))))))

  exported : Listed (Exported f)
  exported =
      same_set OfAll (Exported f) (λ t. ((λ h. there t h), (λ h. back t.0 t.1.0 t.1.1 h)))
      (either_listed OfTypes (λ t. OfSynonyms t ⊎ (OfConstructors t ⊎ OfValues t)) (some_of (λ (r : TypeEntry) (t : Export). t ≡ (given Types r.name r.entity)) f.types (λ r. one_listed (given Types r.name r.entity)))
      (either_listed OfSynonyms (λ t. OfConstructors t ⊎ OfValues t) (some_of (λ (r : SynonymEntry) (t : Export). t ≡ (given Types r.name r.entity)) f.synonyms (λ r. one_listed (given Types r.name r.entity)))
      (either_listed OfConstructors OfValues (some_of (λ (r : ConstructorEntry) (t : Export). t ≡ (given Constructors r.name r.entity)) f.constructors (λ r. one_listed (given Constructors r.name r.entity)))
      (some_of (λ (r : ValueEntry) (t : Export). t ≡ (given Values r.name r.entity)) f.values (λ r. one_listed (given Values r.name r.entity))))))

-- Which exports an import admits

abbrev Fits : List ℕ → List ℕ → TypeEntry → ConstructorEntry → Type 0
Fits t c r k = (r.name ≡ t) × ((k.name ≡ c) × (k.owner ≡ r.entity))

belongs_dec : (f : Interface) (t c : List ℕ) → Dec (Belongs f t c)
belongs_dec f t c = same_dec both (some_dec (λ r. (k : ConstructorEntry) × (Contains f.constructors k × Fits t c r k)) (λ r. some_dec (Fits t c r) (λ k. both_dec (text_discrete r.name t) (both_dec (text_discrete k.name c) (entity_discrete k.owner r.entity))) f.constructors) f.types)
  where
    both : ((r : TypeEntry) × (Contains f.types r × ((k : ConstructorEntry) × (Contains f.constructors k × Fits t c r k)))) ↔ Belongs f t c
    both = (
      (λ h. record { type = h.0; constructor = h.1.1.0; exports_type = h.1.0; exports_constructor = h.1.1.1.0; type_name = h.1.1.1.1.0; constructor_name = h.1.1.1.1.1.0; owner = h.1.1.1.1.1.1 }),
      (λ b. (b.type, (b.exports_type, (b.constructor, (b.exports_constructor, (b.type_name, (b.constructor_name, b.owner))))))),
    )

listed_type : (f : Interface) (x : List ℕ) (n : Identifier) (t : SubItems) → Lists f x (item.Con n t) Types → n.text ≡ x
listed_type f x n t (scope.a_type e) = e

lists_dec : (f : Interface) (x : List ℕ) (j : ImportItem) (s : Namespace) → Dec (Lists f x j s)
lists_dec f x (item.Var n) Values = same_dec ((λ e. scope.a_value e), back_value) (text_discrete n.text x)
  where
    back_value : Lists f x (item.Var n) Values → n.text ≡ x
    back_value (scope.a_value e) = e
lists_dec f x (item.Var n) Types = no (λ h. elim h [ ])
lists_dec f x (item.Var n) Constructors = no (λ h. elim h [ ])
lists_dec f x (item.Con n t) Types = same_dec ((λ e. scope.a_type e), listed_type f x n t) (text_discrete n.text x)
lists_dec f x (item.Con n subs.None) Values = no (λ h. elim h [ ])
lists_dec f x (item.Con n subs.All) Values = no (λ h. elim h [ ])
lists_dec f x (item.Con n (subs.Some cs)) Values = no (λ h. elim h [ ])
lists_dec f x (item.Con n subs.None) Constructors = no (λ h. elim h [ ])
lists_dec f x (item.Con n subs.All) Constructors = same_dec ((λ b. scope.each_constructor b), back_each) (belongs_dec f n.text x)
  where
    back_each : Lists f x (item.Con n subs.All) Constructors → Belongs f n.text x
    back_each (scope.each_constructor b) = b
lists_dec f x (item.Con n (subs.Some cs)) Constructors =
    same_dec ((λ h. scope.a_constructor h.1.0 h.1.1.0 h.1.1.1), back_some) (some_dec (λ c. (c.text ≡ x) × Belongs f n.text x) (λ c. both_dec (text_discrete c.text x) (belongs_dec f n.text x)) cs)
  where
    back_some : Lists f x (item.Con n (subs.Some cs)) Constructors → (c : Identifier) × (Contains cs c × ((c.text ≡ x) × Belongs f n.text x))
    back_some (scope.a_constructor {c = c} h e b) = (c, (h, (e, b)))

-- a name alone hides constructors too
abbrev Alone : List ℕ → ImportItem → Namespace → Type 0
Alone x (item.Con n subs.None) Constructors = n.text ≡ x
Alone x i s = ⊥

alone_dec : (x : List ℕ) (j : ImportItem) (s : Namespace) → Dec (Alone x j s)
alone_dec x (item.Var n) s = no (λ h. h)
alone_dec x (item.Con n subs.All) s = no (λ h. h)
alone_dec x (item.Con n (subs.Some cs)) s = no (λ h. h)
alone_dec x (item.Con n subs.None) Types = no (λ h. h)
alone_dec x (item.Con n subs.None) Values = no (λ h. h)
alone_dec x (item.Con n subs.None) Constructors = text_discrete n.text x

alone_hides : (f : Interface) (x : List ℕ) (j : ImportItem) (s : Namespace) → Alone x j s → Hides f x j s
alone_hides f x (item.Var n) s h = absurd h
alone_hides f x (item.Con n subs.All) s h = absurd h
alone_hides f x (item.Con n (subs.Some cs)) s h = absurd h
alone_hides f x (item.Con n subs.None) Types h = absurd h
alone_hides f x (item.Con n subs.None) Values h = absurd h
alone_hides f x (item.Con n subs.None) Constructors h = scope.alone h

hides_dec : (f : Interface) (x : List ℕ) (j : ImportItem) (s : Namespace) → Dec (Hides f x j s)
hides_dec f x j s = go (lists_dec f x j s) (alone_dec x j s)
  where
    back_hides : (j : ImportItem) (s : Namespace) → Hides f x j s → Lists f x j s ⊎ Alone x j s
    back_hides j s (scope.listed l) = inl l
    back_hides (item.Con n subs.None) Constructors (scope.alone e) = inr e

    go : Dec (Lists f x j s) → Dec (Alone x j s) → Dec (Hides f x j s)
    go (yes l) d = yes (scope.listed l)
    go (no n) (yes a) = yes (alone_hides f x j s a)
    go (no n) (no a) = no (λ h. ⊎_elim (λ l. n l) (λ b. a b) (back_hides j s h))

-- what the list of an import admits
abbrev Admitted : Interface → ImportList → Namespace → List ℕ → Type 0
Admitted f list.Every s x = Unit {0}
Admitted f (list.Only is) s x = (j : ImportItem) × (Contains is j × Lists f x j s)
Admitted f (list.Hiding is) s x = ¬ ((j : ImportItem) × (Contains is j × Hides f x j s))

admitted_dec : (f : Interface) (l : ImportList) (s : Namespace) (x : List ℕ) → Dec (Admitted f l s x)
admitted_dec f list.Every s x = yes tt
admitted_dec f (list.Only is) s x = some_dec (λ j. Lists f x j s) (λ j. lists_dec f x j s) is
admitted_dec f (list.Hiding is) s x = not_dec (some_dec (λ j. Hides f x j s) (λ j. hides_dec f x j s) is)

to_brings : (f : Interface) (i : Import) (s : Namespace) (x : List ℕ) (e : Entity) (l : ImportList) → i.list ≡ l → Admitted f l s x → Exports f x e s → Brings f i s x e
to_brings f i s x e list.Every q a h = every q h
to_brings f i s x e (list.Only is) q a h = only q a.1.0 a.1.1 h
to_brings f i s x e (list.Hiding is) q a h = hiding q (λ j c k. a (j, (c, k))) h

from_brings : (f : Interface) (i : Import) (s : Namespace) (x : List ℕ) (e : Entity) → Brings f i s x e → Admitted f i.list s x × Exports f x e s
from_brings f i s x e (every q h) = (subst (λ l. Admitted f l s x) (sym q) tt, h)
from_brings f i s x e (only {j = j} q c l h) = (subst (λ l. Admitted f l s x) (sym q) (j, (c, l)), h)
from_brings f i s x e (hiding q n h) = (subst (λ l. Admitted f l s x) (sym q) (λ k. n k.0 k.1.0 k.1.1), h)

-- Pairs

abbrev pair : Namespace → Option (List ℕ) → List ℕ → Entity → Pair
pair s q x e = record { space = s; qualifier = q; text = x; entity = e }

-- of one import: bare, unless it is qualified, and qualified
abbrev OfExport : Import → Export → Pair → Type 0
OfExport i t p = ((i.qualified ≡ false) × (p ≡ pair t.0 None t.1.0 t.1.1)) ⊎ (p ≡ pair t.0 (Some (known_as i)) t.1.0 t.1.1)

bool_dec : (b : Bool) → Dec (b ≡ false)
bool_dec true = no (λ e. let z : true ≡ false = e in cc)
bool_dec false = yes refl

of_export : (i : Import) (t : Export) → Listed (OfExport i t)
of_export i t = either_listed (λ p. (i.qualified ≡ false) × (p ≡ pair t.0 None t.1.0 t.1.1)) (λ p. p ≡ pair t.0 (Some (known_as i)) t.1.0 t.1.1)
    (if_listed (λ p. p ≡ pair t.0 None t.1.0 t.1.1) (i.qualified ≡ false) (bool_dec i.qualified) (one_listed (pair t.0 None t.1.0 t.1.1))) (one_listed (pair t.0 (Some (known_as i)) t.1.0 t.1.1))

abbrev OfInterface : Import → Interface → Pair → Type 0
OfInterface i f p = (f.name ≡ i.name.text) × ((t : Export) × (Contains (exported f).elements t × (Admitted f i.list t.0 t.1.0 × OfExport i t p)))

of_interface : (i : Import) (f : Interface) → Listed (OfInterface i f)
of_interface i f = if_listed (λ p. (t : Export) × (Contains (exported f).elements t × (Admitted f i.list t.0 t.1.0 × OfExport i t p))) (f.name ≡ i.name.text) (text_discrete f.name i.name.text)
    (some_of (λ t p. Admitted f i.list t.0 t.1.0 × OfExport i t p) (exported f).elements (λ t. if_listed (OfExport i t) (Admitted f i.list t.0 t.1.0) (admitted_dec f i.list t.0 t.1.0) (of_export i t)))

module _ (m : Module) (fs : List Interface) where
  -- the imports
  abbrev NoPrelude : Type 0
  NoPrelude = ¬ ((j : Import) × (Contains m.header.imports j × (j.name.text ≡ prelude_name)))

  all_imports : Listed (Imports m)
  all_imports = same_set (λ i. Contains m.header.imports i ⊎ (NoPrelude × (i ≡ import_prelude))) (Imports m)
      (λ i. (
        (λ h. ⊎_elim (λ c. written c) (λ k. added (λ j c e. k.0 (j, (c, e))) k.1) h),
        (λ h. back_import i h),
      ))
      (either_listed (Contains m.header.imports) (λ i. NoPrelude × (i ≡ import_prelude)) (list_listed m.header.imports)
      (if_listed (λ i. i ≡ import_prelude) NoPrelude (not_dec (some_dec (λ j. j.name.text ≡ prelude_name) (λ j. text_discrete j.name.text prelude_name) m.header.imports)) (one_listed import_prelude)))
    where
      back_import : (i : Import) → Imports m i → Contains m.header.imports i ⊎ (NoPrelude × (i ≡ import_prelude))
      back_import i (written c) = inl c
      back_import i (added n e) = inr ((λ k. n k.0 k.1.0 k.1.1), e)

  abbrev Brought : Pair → Type 0
  Brought p = (i : Import) × (Contains all_imports.elements i × ((f : Interface) × (Contains fs f × OfInterface i f p)))

  abbrev OwnName : (Namespace × List ℕ) → Pair → Type 0
  OwnName n p = (p ≡ pair n.0 None n.1 (own m n.1)) ⊎ (p ≡ pair n.0 (Some m.header.name.text) n.1 (own m n.1))

  abbrev Own : Pair → Type 0
  Own p = (d : Declaration) × (Contains m.decls d × ((n : Namespace × List ℕ) × (Contains (declared_by d).elements n × OwnName n p)))

  abbrev There : Pair → Type 0
  There p = InScope m fs p.space p.qualifier p.text p.entity

  own_there : (p : Pair) → Own p → There p
  own_there p h = ⊎_elim (λ e. subst There (sym e) (declared w (inl refl) refl)) (λ e. subst There (sym e) (declared w (inr refl) refl)) h.1.1.1.1
    where
      w : Declares m h.1.1.0.1 h.1.1.0.0
      w = record { declaration = h.0; stands = h.1.0; declares = ((declared_by h.0).exactly h.1.1.0).0 h.1.1.1.0 }

  brought_there : (p : Pair) → Brought p → There p
  brought_there p h = ⊎_elim (λ e. subst There (sym e.1) (imported w k.1.0 k.1.1.0 b (inl (refl, e.0)))) (λ e. subst There (sym e) (imported w k.1.0 k.1.1.0 b (inr refl))) t.1.1.1
    where
      k : (f : Interface) × (Contains fs f × OfInterface h.0 f p)
      k = h.1.1

      t : (t : Export) × (Contains (exported k.0).elements t × (Admitted k.0 h.0.list t.0 t.1.0 × OfExport h.0 t p))
      t = k.1.1.1

      w : Imports m h.0
      w = (all_imports.exactly h.0).0 h.1.0

      b : Brings k.0 h.0 t.0.0 t.0.1.0 t.0.1.1
      b = to_brings k.0 h.0 t.0.0 t.0.1.0 t.0.1.1 h.0.list refl t.1.1.0 (((exported k.0).exactly t.0).0 t.1.0)

  back_there : (s : Namespace) (q : Option (List ℕ)) (x : List ℕ) (e : Entity) → InScope m fs s q x e → Own (pair s q x e) ⊎ Brought (pair s q x e)
  back_there s q x e (declared w o d) =
      inl (w.declaration, (w.stands, ((s, x), (((declared_by w.declaration).exactly (s, x)).1 w.declares, ⊎_elim (λ z. inl (λ i. pair s (z i) x (d i))) (λ z. inr (λ i. pair s (z i) x (d i))) o))))
  back_there s q x e (imported {i} {f} w c n b o) =
      let r = from_brings f i s x e b in
      inr (i, ((all_imports.exactly i).1 w, (f, (c, (n, ((s, (x, e)), (((exported f).exactly (s, (x, e))).1 r.1, (r.0, ⊎_elim (λ z. inl (z.1, λ j. pair s (z.0 j) x e)) (λ z. inr (λ j. pair s (z j) x e)) o))))))))

  scope_listed : Listed There
  scope_listed = same_set (λ p. Own p ⊎ Brought p) There
      (λ p. ((λ h. ⊎_elim (own_there p) (brought_there p) h), (λ h. back_there p.space p.qualifier p.text p.entity h)))
      (either_listed Own Brought
      (some_of (λ d p. (n : Namespace × List ℕ) × (Contains (declared_by d).elements n × OwnName n p)) m.decls
      (λ d. some_of OwnName (declared_by d).elements (λ n. either_listed (λ p. p ≡ pair n.0 None n.1 (own m n.1)) (λ p. p ≡ pair n.0 (Some m.header.name.text) n.1 (own m n.1)) (one_listed (pair n.0 None n.1 (own m n.1))) (one_listed (pair n.0 (Some m.header.name.text) n.1 (own m n.1))))))
      (some_of (λ i p. (f : Interface) × (Contains fs f × OfInterface i f p)) all_imports.elements (λ i. some_of (OfInterface i) fs (of_interface i))))

pub has_scope : (m : Module) (fs : List Interface) → (pairs : List Pair) × IsScopeOf m fs pairs
has_scope m fs = ((scope_listed m fs).elements, (scope_listed m fs).exactly)
