-- The table of the types to which constructors belong.
use Rattle.std.proofs.Common.{◌≡◌, ℕ, ◌+◌, ◌<◌, ◌≤◌, Bool, true, false, cond, List, [], ◌∷◌, ◌++◌, map, length, take, get_or, Option, None, Some, option_map, is_some, refl, sym, ap, ◌∙◌, subst, inl, inr, append_assoc, append-nil, Bor}
use Rattle.std.proofs.lemmas.Bool.{cases_Bool, both_ways}
use Rattle.std.proofs.lemmas.List.{take_more, take_all, map-append}
use Rattle.std.specs.declared.hash.FoldHasher.{FoldHasher}
use Rattle.std.specs.declared.hash.BuildHasherDefault.{BuildHasherDefault}
use Rattle.std.specs.Map.{lookup}
use Rattle.indexmap.specs.IndexMap.{IndexMap, get_by}
use Rattle.hm_types.specs.declared.Entity.{Entity}
use Rattle.hm_types.specs.declared.entries.ConstructorEntry.{ConstructorEntry}
use Rattle.hm_types.specs.Interfaces.{Exports as Interface}
use Rattle.hm_syntax.specs.Names.{Identifier}
use Rattle.hm_syntax.specs.Lists.{constructors}
use Rattle.hm_syntax.specs.Trees.{DataConstructor, Declaration, data_declaration, newtype_declaration, synonym_declaration, signature, clause, pattern_binding}
use Rattle.hm_scope_tables.specs.declared.keys.EntityKey.{EntityKey}
use Rattle.hm_names.specs.Texts.{same_entity}
use Rattle.hm_names.specs.Described.{ConstructorDescription, described, declared_constructors, imported_constructors, first_of}
use Rattle.hm_names.specs.Entities.{constructor_list}
use Rattle.hm_scope_tables.specs.KnownTables.{entity_at}
use Rattle.hm_scope_entities.specs.Owners.{same_key, IsOwners}
use Rattle.hm_names.proofs.DeclaredPairs.{listed}
use Rattle.hm_names.proofs.Members.{same_entity-Decides}

pub first_kept : {X : Type 0} (of : X → Entity) (e : Entity) (xs ys : List X) (x : X) → first_of of e xs ≡ Some x → first_of of e (xs ++ ys) ≡ Some x
first_kept of e [] ys x h = absurd (let k : None ≡ Some x = h in cc)
first_kept of e (z ∷ xs) ys x h = go (same_entity e (of z)) h (first_kept of e xs ys x)
  where
    go : (b : Bool) → cond b (Some z) (first_of of e xs) ≡ Some x → (first_of of e xs ≡ Some x → first_of of e (xs ++ ys) ≡ Some x) → cond b (Some z) (first_of of e (xs ++ ys)) ≡ Some x
    go true p again = p
    go false p again = again p

pub first_behind : {X : Type 0} (of : X → Entity) (e : Entity) (xs ys : List X) → first_of of e xs ≡ None → first_of of e (xs ++ ys) ≡ first_of of e ys
first_behind of e [] ys h = refl
first_behind of e (z ∷ xs) ys h = go (same_entity e (of z)) h (first_behind of e xs ys)
  where
    go : (b : Bool) → cond b (Some z) (first_of of e xs) ≡ None → (first_of of e xs ≡ None → first_of of e (xs ++ ys) ≡ first_of of e ys) → cond b (Some z) (first_of of e (xs ++ ys)) ≡ first_of of e ys
    go true p again = absurd (let k : Some z ≡ None = p in cc)
    go false p again = again p

abbrev of : ConstructorDescription → Entity
of d = d.entity

abbrev owner_in : Option ConstructorDescription → Option Entity
owner_in o = option_map (λ d. d.owner) o

abbrev OwnerTable : Type 0
OwnerTable = IndexMap EntityKey Entity (BuildHasherDefault FoldHasher)

alone : (e : Entity) (d : ConstructorDescription) → e ≡ d.entity → first_of of e (d ∷ []) ≡ Some d
alone e d h = ap (λ b. cond b (Some d) None) ((same_entity-Decides e d.entity).1 h)

-- a constructor that is described already keeps its type
kept : (ds : List ConstructorDescription) (d : ConstructorDescription) (e : Entity) (o : Option ConstructorDescription) → first_of of e ds ≡ o → (o ≡ None → ¬ (e ≡ d.entity)) → owner_in (first_of of e (ds ++ d ∷ [])) ≡ owner_in o
kept ds d e (Some x) h n = ap owner_in (first_kept of e ds (d ∷ []) x h)
kept ds d e None h n = ap owner_in (first_behind of e ds (d ∷ []) h ∙ other (same_entity e d.entity) (same_entity-Decides e d.entity).0)
  where
    other : (b : Bool) → (b ≡ true → e ≡ d.entity) → cond b (Some d) None ≡ None
    other true t = absurd (n refl (t refl))
    other false t = refl

pub noted_before : (ds : List ConstructorDescription) (d : ConstructorDescription) (owners : OwnerTable) (key : EntityKey) → entity_at key ≡ d.entity → is_some (get_by (same_key key) owners) ≡ true → IsOwners ds owners → IsOwners (ds ++ d ∷ []) owners
noted_before ds d owners key is there table q = table q ∙ sym (kept ds d (entity_at q) (first_of of (entity_at q) ds) refl (λ none same. both_ways (is_some (get_by (same_key key) owners))
    (ap is_some (table key ∙ ap (λ e. owner_in (first_of of e ds)) (is ∙ sym same) ∙ ap owner_in none)) there))

pub noted_new : (ds : List ConstructorDescription) (d : ConstructorDescription) (old new : OwnerTable) (key : EntityKey) → entity_at key ≡ d.entity → is_some (get_by (same_key key) old) ≡ false → IsOwners ds old
    → ((q : EntityKey) → get_by (same_key q) new ≡ cond (same_key key q) (Some d.owner) (get_by (same_key q) old)) → IsOwners (ds ++ d ∷ []) new
noted_new ds d old new key is absent table updated q = elim (cases_Bool (same_key key q)) [
  | inl same ↦
      let one : entity_at key ≡ entity_at q = (same_entity-Decides (entity_at key) (entity_at q)).0 same in
      let none : first_of of (entity_at q) ds ≡ None = missing (first_of of (entity_at q) ds) (sym (ap is_some (table key ∙ ap (λ e. owner_in (first_of of e ds)) one)) ∙ absent) in
      updated q ∙ ap (λ b. cond b (Some d.owner) (get_by (same_key q) old)) same ∙ sym (ap owner_in (first_behind of (entity_at q) ds (d ∷ []) none ∙ alone (entity_at q) d (sym one ∙ is)))
  | inr apart ↦
      updated q ∙ ap (λ b. cond b (Some d.owner) (get_by (same_key q) old)) apart ∙ table q
      ∙ sym (kept ds d (entity_at q) (first_of of (entity_at q) ds) refl (λ none same. both_ways (same_key key q) apart ((same_entity-Decides (entity_at key) (entity_at q)).1 (is ∙ sym same))))
]
  where
    missing : (o : Option ConstructorDescription) → is_some (owner_in o) ≡ false → o ≡ None
    missing None h = refl
    missing (Some x) h = absurd (let k : true ≡ false = h in cc)

-- a loop over a list whose elements are described in turn
module _ {X : Type 0} (describe : X → ConstructorDescription) (ds : List ConstructorDescription) where
  pub described_more : (xs : List X) (i : ℕ) (x : X) (owners : OwnerTable) → i < length xs → x ≡ get_or xs i x → IsOwners ((ds ++ map describe (take i xs)) ++ describe x ∷ []) owners → IsOwners (ds ++ map describe (take (i + 1) xs)) owners
  described_more xs i x owners inside is table =
      let more : take (i + 1) xs ≡ take i xs ++ x ∷ [] = take_more xs i x inside ∙ ap (λ y. take i xs ++ y ∷ []) (sym is) in
      let all : ds ++ map describe (take (i + 1) xs) ≡ (ds ++ map describe (take i xs)) ++ describe x ∷ [] = ap (λ l. ds ++ map describe l) more ∙ ap (λ l. ds ++ l) (map-append describe (take i xs) (x ∷ [])) ∙ sym (append_assoc ds (map describe (take i xs)) (describe x ∷ [])) in
      subst (λ l. IsOwners l owners) (sym all) table

  pub described_all : (xs : List X) (i : ℕ) (owners : OwnerTable) → length xs ≤ i → IsOwners (ds ++ map describe (take i xs)) owners → IsOwners (ds ++ map describe xs) owners
  described_all xs i owners past table = subst (λ l. IsOwners (ds ++ map describe l) owners) (take_all i xs past) table

  pub described_none : (xs : List X) (owners : OwnerTable) → IsOwners ds owners → IsOwners (ds ++ map describe (take 0 xs)) owners
  described_none xs owners table = subst (λ l. IsOwners l owners) (sym (nothing xs)) table
    where
      nothing : (ys : List X) → ds ++ map describe (take 0 ys) ≡ ds
      nothing ys = ap (λ l. ds ++ map describe l) (none ys) ∙ append-nil ds
        where
          none : (ys : List X) → take 0 ys ≡ []
          none [] = refl
          none (y ∷ ys) = refl

-- what a list of declarations declares, in parts
pub declared_append : (m : List ℕ) (ds es : List Declaration) → declared_constructors m (ds ++ es) ≡ declared_constructors m ds ++ declared_constructors m es
declared_append m [] es = refl
declared_append m (data_declaration n ps cs ∷ ds) es = ap (λ l. map (described m n) (constructor_list cs) ++ l) (declared_append m ds es) ∙ sym (append_assoc (map (described m n) (constructor_list cs)) (declared_constructors m ds) (declared_constructors m es))
declared_append m (newtype_declaration n ps c ∷ ds) es = ap (λ l. described m n c ∷ l) (declared_append m ds es)
declared_append m (synonym_declaration n ps t ∷ ds) es = declared_append m ds es
declared_append m (signature ns t ∷ ds) es = declared_append m ds es
declared_append m (clause n ps r ∷ ds) es = declared_append m ds es
declared_append m (pattern_binding line column p r ∷ ds) es = declared_append m ds es

pub declared_data : (m : List ℕ) (ds : List ConstructorDescription) (n : Identifier) (ps : List Identifier) (cs : List DataConstructor) (owners : OwnerTable) → IsOwners (ds ++ map (described m n) cs) owners → IsOwners (ds ++ declared_constructors m (data_declaration n ps (constructors cs) ∷ [])) owners
declared_data m ds n ps cs owners table = subst (λ l. IsOwners (ds ++ l) owners) (sym (append-nil (map (described m n) (constructor_list (constructors cs))) ∙ ap (λ l. map (described m n) l) (listed cs))) table

pub declared_more : (m : List ℕ) (ds : List ConstructorDescription) (xs : List Declaration) (i : ℕ) (x : Declaration) (owners : OwnerTable) → i < length xs → x ≡ get_or xs i x → IsOwners ((ds ++ declared_constructors m (take i xs)) ++ declared_constructors m (x ∷ [])) owners → IsOwners (ds ++ declared_constructors m (take (i + 1) xs)) owners
declared_more m ds xs i x owners inside is table =
    let more : take (i + 1) xs ≡ take i xs ++ x ∷ [] = take_more xs i x inside ∙ ap (λ y. take i xs ++ y ∷ []) (sym is) in
    let all : ds ++ declared_constructors m (take (i + 1) xs) ≡ (ds ++ declared_constructors m (take i xs)) ++ declared_constructors m (x ∷ []) =
    ap (λ l. ds ++ declared_constructors m l) more ∙ ap (λ l. ds ++ l) (declared_append m (take i xs) (x ∷ [])) ∙ sym (append_assoc ds (declared_constructors m (take i xs)) (declared_constructors m (x ∷ []))) in
    subst (λ l. IsOwners l owners) (sym all) table

-- what a list of interfaces has, in parts
imported_append : (fs gs : List Interface) → imported_constructors (fs ++ gs) ≡ imported_constructors fs ++ imported_constructors gs
imported_append [] gs = refl
imported_append (f ∷ fs) gs = ap (λ l. map (λ (r : ConstructorEntry). record { entity = r.entity; owner = r.owner; arguments = r.arguments }) f.constructors ++ l) (imported_append fs gs)
    ∙ sym (append_assoc (map (λ (r : ConstructorEntry). record { entity = r.entity; owner = r.owner; arguments = r.arguments }) f.constructors) (imported_constructors fs) (imported_constructors gs))

pub imported_more : (ds : List ConstructorDescription) (xs : List (Bor Interface)) (i : ℕ) (x : Bor Interface) (owners : OwnerTable) → i < length xs → x ≡ get_or xs i x
    → IsOwners ((ds ++ imported_constructors (map (λ (f : Bor Interface). f.now) (take i xs))) ++ map (λ (r : ConstructorEntry). record { entity = r.entity; owner = r.owner; arguments = r.arguments }) x.now.constructors) owners → IsOwners (ds ++ imported_constructors (map (λ (f : Bor Interface). f.now) (take (i + 1) xs))) owners
imported_more ds xs i x owners inside is table =
    let more : take (i + 1) xs ≡ take i xs ++ x ∷ [] = take_more xs i x inside ∙ ap (λ y. take i xs ++ y ∷ []) (sym is) in
    let here = map (λ (r : ConstructorEntry). record { entity = r.entity; owner = r.owner; arguments = r.arguments }) x.now.constructors in
    let all : ds ++ imported_constructors (map (λ (f : Bor Interface). f.now) (take (i + 1) xs)) ≡ (ds ++ imported_constructors (map (λ (f : Bor Interface). f.now) (take i xs))) ++ here =
    ap (λ l. ds ++ imported_constructors (map (λ (f : Bor Interface). f.now) l)) more ∙ ap (λ l. ds ++ imported_constructors l) (map-append (λ (f : Bor Interface). f.now) (take i xs) (x ∷ []))
    ∙ ap (λ l. ds ++ l) (imported_append (map (λ (f : Bor Interface). f.now) (take i xs)) (x.now ∷ []) ∙ ap (λ l. imported_constructors (map (λ (f : Bor Interface). f.now) (take i xs)) ++ l) (append-nil here)) ∙ sym (append_assoc ds (imported_constructors (map (λ (f : Bor Interface). f.now) (take i xs))) here) in
    subst (λ l. IsOwners l owners) (sym all) table

take_none : {X : Type 0} (xs : List X) → take 0 xs ≡ []
take_none [] = refl
take_none (x ∷ xs) = refl

pub declared_none : (m : List ℕ) (ds : List ConstructorDescription) (xs : List Declaration) (owners : OwnerTable) → IsOwners ds owners → IsOwners (ds ++ declared_constructors m (take 0 xs)) owners
declared_none m ds xs owners table = subst (λ l. IsOwners l owners) (sym (ap (λ l. ds ++ declared_constructors m l) (take_none xs) ∙ append-nil ds)) table

pub imported_none : (ds : List ConstructorDescription) (xs : List (Bor Interface)) (owners : OwnerTable) → IsOwners ds owners → IsOwners (ds ++ imported_constructors (map (λ (f : Bor Interface). f.now) (take 0 xs))) owners
imported_none ds xs owners table = subst (λ l. IsOwners l owners) (sym (ap (λ l. ds ++ imported_constructors (map (λ (f : Bor Interface). f.now) l)) (take_none xs) ∙ append-nil ds)) table

pub no_owners : (owners : OwnerTable) → owners.entries ≡ [] → IsOwners [] owners
no_owners owners e k = ap (λ es. lookup (same_key k) es) e
