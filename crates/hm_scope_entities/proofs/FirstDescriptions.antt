-- Tables that keep the first description of each entity.
use Rattle.std.proofs.Common.{◌≡◌, ℕ, Bool, true, false, cond, List, [], ◌∷◌, ◌++◌, map, Option, None, Some, is_some, inl, inr, refl, sym, ap, ◌∙◌, subst, take, get_or, length, ◌<◌, ◌≤◌, ◌+◌, append_assoc, append-nil, Bor}
use Rattle.std.proofs.lemmas.Bool.{cases_Bool, both_ways}
use Rattle.std.proofs.lemmas.List.{take_more, take_all, map-append}
use Rattle.std.specs.Map.{lookup}
use Rattle.indexmap.specs.IndexMap.{IndexMap, insert_entry}
use Rattle.indexmap.proofs.CallerLemmas.{insert_entry-new}
use Rattle.std.specs.declared.hash.FoldHasher.{FoldHasher}
use Rattle.std.specs.declared.hash.BuildHasherDefault.{BuildHasherDefault}
use Rattle.hm_types.specs.declared.Entity.{Entity}
use Rattle.hm_types.specs.Synonyms.{TypeSynonym}
use Rattle.hm_scope_tables.specs.declared.keys.EntityKey.{EntityKey}
use Rattle.hm_names.specs.Texts.{same_entity}
use Rattle.hm_types.specs.Interfaces.{Exports as Interface}
use Rattle.hm_syntax.specs.Trees.{Declaration, DataConstructor, data_declaration, newtype_declaration, synonym_declaration, signature, clause, pattern_binding}
use Rattle.hm_syntax.specs.Names.{Identifier}
use Rattle.hm_syntax.specs.Lists.{constructors}
use Rattle.hm_syntax.specs.declared.ast.Module.{Module}
use Rattle.hm_names.specs.Entities.{named, constructor_list}
use Rattle.hm_names.specs.Described.{first_of, TypeDescription, arity, algebraic, declared_synonym, imported_synonym, declared_types, imported_types, ConstructorDescription, described, declared_constructors, imported_constructors}
use Rattle.hm_names.specs.NodeFaults.{arity_of_type, arity_of_constructor}
use Rattle.hm_names.specs.Found.{KnownSynonym, KnownArity, arity_of, arity_among, known_synonym, synonym_among}
use Rattle.hm_scope_tables.specs.KnownTables.{entity_at, known_arity, known_own, known_imported, noted, type_description, synonym_description, constructor_description, imported_in, imported_of, KnowsTypes, KnowsConstructors}
use Rattle.hm_names.proofs.Members.{same_entity-Decides}
use Rattle.hm_scope_entities.proofs.EntityTables.{same_entity_key, arity_found}

-- the first of two
abbrev pub or_else : {X : Type 0} → Option X → Option X → Option X
or_else (Some a) b = Some a
or_else None b = b

pub first_in_both : {X : Type 0} (of : X → Entity) (e : Entity) (xs ys : List X) → first_of of e (xs ++ ys) ≡ or_else (first_of of e xs) (first_of of e ys)
first_in_both of e [] ys = refl
first_in_both of e (x ∷ xs) ys = go (same_entity e (of x)) (first_in_both of e xs ys)
  where
    go : (b : Bool) → first_of of e (xs ++ ys) ≡ or_else (first_of of e xs) (first_of of e ys)
        → cond b (Some x) (first_of of e (xs ++ ys)) ≡ or_else (cond b (Some x) (first_of of e xs)) (first_of of e ys)
    go true h = refl
    go false h = h

-- what is answered for an entity, before and after one more
module _ {X : Type 0} (of : X → Entity) (val : Option X → Option ℕ) (none : val None ≡ None) (count : X → ℕ) (some : (x : X) → val (Some x) ≡ Some (count x)) where
  kept : (a : Option ℕ) (b : Option X) (s : Bool) (x : X) → a ≡ val b → (s ≡ true → a ≡ None → ⊥) → a ≡ val (or_else b (cond s (Some x) None))
  kept a (Some y) s x h no_more = h
  kept a None true x h no_more = absurd (no_more refl (h ∙ none))
  kept a None false x h no_more = h

  added : (a : Option KnownArity) (b : Option X) (s : Bool) (k : KnownArity) (x : X) → k.arity ≡ count x → arity_of a ≡ val b
      → arity_of (or_else a (cond s (Some k) None)) ≡ val (or_else b (cond s (Some x) None))
  added (Some y) (Some z) s k x size h = h
  added (Some y) None s k x size h = absurd (let z : Some y.arity ≡ None = h ∙ none in cc)
  added None (Some z) s k x size h = absurd (let w : None ≡ Some (count z) = h ∙ some z in cc)
  added None None true k x size h = ap Some size ∙ sym (some x)
  added None None false k x size h = sym none

  pub one_more : (ks : List KnownArity) (xs : List X) (k : KnownArity) (x : X) → k.entity ≡ of x → k.arity ≡ count x
      → ((e : Entity) → arity_among ks e ≡ val (first_of of e xs)) → (e : Entity) → arity_among (noted ks k) e ≡ val (first_of of e (xs ++ x ∷ []))
  unfolding arity_among
  one_more ks xs k x same size known e = elim (cases_Bool (is_some (arity_of (first_of (λ d. d.entity) k.entity ks)))) [
    | inl there ↦
        ap (λ b. arity_of (first_of (λ (d : KnownArity). d.entity) e (cond b ks (ks ++ k ∷ [])))) there
        ∙ (kept (arity_of (first_of (λ d. d.entity) e ks)) (first_of of e xs) (same_entity e (of x)) x (known e) (λ t n. clash t n there) ∙ ap val (sym (first_in_both of e xs (x ∷ []))))
    | inr absent ↦
        ap (λ b. arity_of (first_of (λ (d : KnownArity). d.entity) e (cond b ks (ks ++ k ∷ [])))) absent
        ∙ (ap arity_of (first_in_both (λ (d : KnownArity). d.entity) e ks (k ∷ []))
        ∙ (ap (λ z. arity_of (or_else (first_of (λ (d : KnownArity). d.entity) e ks) (cond (same_entity e z) (Some k) None))) same
        ∙ (added (first_of (λ d. d.entity) e ks) (first_of of e xs) (same_entity e (of x)) k x size (known e) ∙ ap val (sym (first_in_both of e xs (x ∷ []))))))
  ]
    where
      clash : same_entity e (of x) ≡ true → arity_of (first_of (λ (d : KnownArity). d.entity) e ks) ≡ None → is_some (arity_of (first_of (λ (d : KnownArity). d.entity) k.entity ks)) ≡ true → ⊥
      clash t n there =
          let is : e ≡ k.entity = (same_entity-Decides e (of x)).0 t ∙ sym same in
          let gone : is_some (arity_of (first_of (λ (d : KnownArity). d.entity) k.entity ks)) ≡ false = ap (λ z. is_some (arity_of (first_of (λ (d : KnownArity). d.entity) z ks))) (sym is) ∙ ap is_some n in
          both_ways (is_some (arity_of (first_of (λ (d : KnownArity). d.entity) k.entity ks))) gone there

pub one_more_type : (before : List TypeDescription) (ks : List KnownArity) (ss : List KnownSynonym) (k : KnownArity) (d : TypeDescription) → k.entity ≡ d.entity → k.arity ≡ arity d.meaning → imported_in d.meaning ≡ None
    → KnowsTypes before ks ss → KnowsTypes (before ++ d ∷ []) (noted ks k) ss
one_more_type before ks ss k d same size own known = record {
  arities = one_more (λ d. d.entity) arity_of_type refl (λ d. arity d.meaning) (λ d. refl) ks before k d same size known.arities;
  imported = λ e. known.imported e ∙ (stays (first_of (λ d. d.entity) e before) (same_entity e d.entity) ∙ ap imported_of (sym (first_in_both (λ d. d.entity) e before (d ∷ []))));
}
  where
    stays : (b : Option TypeDescription) (s : Bool) → imported_of b ≡ imported_of (or_else b (cond s (Some d) None))
    stays (Some y) s = refl
    stays None true = sym own
    stays None false = refl

pub one_more_constructor : (before : List ConstructorDescription) (ks : List KnownArity) (k : KnownArity) (d : ConstructorDescription) → k.entity ≡ d.entity → k.arity ≡ d.arguments
    → KnowsConstructors before ks → KnowsConstructors (before ++ d ∷ []) (noted ks k)
one_more_constructor before ks k d same size known = record {
  arities = one_more (λ d. d.entity) arity_of_constructor refl (λ d. d.arguments) (λ d. refl) ks before k d same size known.arities;
}

-- one more synonym in a table

module _ {V : Type 0} (body : V → TypeSynonym) where
  abbrev known_by : EntityKey × V → KnownSynonym
  known_by p = record { entity = entity_at p.0; synonym = body p.1 }

  pub put_found : (es : List (EntityKey × V)) (k : EntityKey) (v : V) (e : Entity) →
      synonym_among (map known_by (insert_entry same_entity_key es k v)) e ≡ cond (same_entity e (entity_at k)) (Some (body v)) (synonym_among (map known_by es) e)
  unfolding synonym_among
  put_found [] k v e = go (same_entity e (entity_at k))
    where
      go : (b : Bool) → known_synonym (cond b (Some (known_by (k, v))) None) ≡ cond b (Some (body v)) None
      go true = refl
      go false = refl
  put_found (x ∷ es) k v e = elim (cases_Bool (same_entity_key k x.0)) [
    | inl same ↦
        let is : entity_at x.0 ≡ entity_at k = sym ((same_entity-Decides (entity_at k) (entity_at x.0)).0 same) in
        ap (λ b. known_synonym (first_of (λ (s : KnownSynonym). s.entity) e (map known_by (cond b ((x.0, v) ∷ es) (x ∷ insert_entry same_entity_key es k v))))) same
        ∙ (ap (λ z. known_synonym (cond (same_entity e z) (Some (known_by (x.0, v))) (first_of (λ (s : KnownSynonym). s.entity) e (map known_by es)))) is
        ∙ (here (same_entity e (entity_at k)) (known_by (x.0, v)) (known_by x) refl (first_of (λ s. s.entity) e (map known_by es))
        ∙ ap (λ z. cond (same_entity e (entity_at k)) (Some (body v)) (known_synonym (cond (same_entity e z) (Some (known_by x)) (first_of (λ (s : KnownSynonym). s.entity) e (map known_by es))))) (sym is)))
    | inr apart ↦
        ap (λ b. known_synonym (first_of (λ (s : KnownSynonym). s.entity) e (map known_by (cond b ((x.0, v) ∷ es) (x ∷ insert_entry same_entity_key es k v))))) apart
        ∙ elim (cases_Bool (same_entity e (entity_at x.0))) [
          | inl t ↦
              ap (λ b. known_synonym (cond b (Some (known_by x)) (first_of (λ (s : KnownSynonym). s.entity) e (map known_by (insert_entry same_entity_key es k v))))) t
              ∙ (sym (ap (λ b. cond b (Some (body v)) (Some (body x.1))) (other apart t))
              ∙ ap (λ b. cond (same_entity e (entity_at k)) (Some (body v)) (known_synonym (cond b (Some (known_by x)) (first_of (λ (s : KnownSynonym). s.entity) e (map known_by es))))) (sym t))
          | inr f ↦
              ap (λ b. known_synonym (cond b (Some (known_by x)) (first_of (λ (s : KnownSynonym). s.entity) e (map known_by (insert_entry same_entity_key es k v))))) f
              ∙ (put_found es k v e
              ∙ ap (λ b. cond (same_entity e (entity_at k)) (Some (body v)) (known_synonym (cond b (Some (known_by x)) (first_of (λ (s : KnownSynonym). s.entity) e (map known_by es))))) (sym f))
        ]
  ]
    where
      here : (b : Bool) (n o : KnownSynonym) → n.synonym ≡ body v → (rest : Option KnownSynonym) → known_synonym (cond b (Some n) rest) ≡ cond b (Some (body v)) (known_synonym (cond b (Some o) rest))
      here true n o h rest = ap Some h
      here false n o h rest = refl

      other : same_entity_key k x.0 ≡ false → same_entity e (entity_at x.0) ≡ true → same_entity e (entity_at k) ≡ false
      other apart t = elim (cases_Bool (same_entity e (entity_at k))) [
        | inl s ↦ absurd (both_ways (same_entity_key k x.0) apart ((same_entity-Decides (entity_at k) (entity_at x.0)).1 (sym ((same_entity-Decides e (entity_at k)).0 s) ∙ (same_entity-Decides e (entity_at x.0)).0 t)))
        | inr f ↦ f
      ]

-- Going over a list whose elements are described in turn

module _ {A D : Type 0} (h : List A → List D) (joins : (xs ys : List A) → h (xs ++ ys) ≡ h xs ++ h ys) where
  pub described_more : (K : List D → Type 0) (before : List D) (xs : List A) (i : ℕ) (x : A) → i < length xs → x ≡ get_or xs i x
      → K ((before ++ h (take i xs)) ++ h (x ∷ [])) → K (before ++ h (take (i + 1) xs))
  described_more K before xs i x inside is k =
      let more : take (i + 1) xs ≡ take i xs ++ x ∷ [] = take_more xs i x inside ∙ ap (λ z. take i xs ++ z ∷ []) (sym is) in
      subst K (append_assoc before (h (take i xs)) (h (x ∷ [])) ∙ ap (λ z. before ++ z) (sym (joins (take i xs) (x ∷ [])) ∙ ap h (sym more))) k

pub declared_types_join : (m : List ℕ) (xs ys : List Declaration) → declared_types m (xs ++ ys) ≡ declared_types m xs ++ declared_types m ys
declared_types_join m [] ys = refl
declared_types_join m (data_declaration n ps cs ∷ xs) ys = ap (λ z. record { entity = named m n.text; meaning = algebraic (length ps) } ∷ z) (declared_types_join m xs ys)
declared_types_join m (newtype_declaration n ps c ∷ xs) ys = ap (λ z. record { entity = named m n.text; meaning = algebraic (length ps) } ∷ z) (declared_types_join m xs ys)
declared_types_join m (synonym_declaration n ps t ∷ xs) ys = ap (λ z. record { entity = named m n.text; meaning = declared_synonym ps t } ∷ z) (declared_types_join m xs ys)
declared_types_join m (signature ns t ∷ xs) ys = declared_types_join m xs ys
declared_types_join m (clause n ps r ∷ xs) ys = declared_types_join m xs ys
declared_types_join m (pattern_binding line column p r ∷ xs) ys = declared_types_join m xs ys

pub declared_constructors_join : (m : List ℕ) (xs ys : List Declaration) → declared_constructors m (xs ++ ys) ≡ declared_constructors m xs ++ declared_constructors m ys
declared_constructors_join m [] ys = refl
declared_constructors_join m (data_declaration n ps cs ∷ xs) ys =
    ap (λ z. map (described m n) (constructor_list cs) ++ z) (declared_constructors_join m xs ys) ∙ sym (append_assoc (map (described m n) (constructor_list cs)) (declared_constructors m xs) (declared_constructors m ys))
declared_constructors_join m (newtype_declaration n ps c ∷ xs) ys = ap (λ z. described m n c ∷ z) (declared_constructors_join m xs ys)
declared_constructors_join m (synonym_declaration n ps t ∷ xs) ys = declared_constructors_join m xs ys
declared_constructors_join m (signature ns t ∷ xs) ys = declared_constructors_join m xs ys
declared_constructors_join m (clause n ps r ∷ xs) ys = declared_constructors_join m xs ys
declared_constructors_join m (pattern_binding line column p r ∷ xs) ys = declared_constructors_join m xs ys

pub imported_types_join : (xs ys : List (Bor Interface)) → imported_types (map (λ f. f.now) (xs ++ ys)) ≡ imported_types (map (λ f. f.now) xs) ++ imported_types (map (λ f. f.now) ys)
imported_types_join [] ys = refl
imported_types_join (f ∷ xs) ys =
    let ts = map type_description f.now.types in
    let ss = map synonym_description f.now.synonyms in
    let us = imported_types (map (λ (g : Bor Interface). g.now) xs) in
    let vs = imported_types (map (λ (g : Bor Interface). g.now) ys) in
    ap (λ z. ts ++ (ss ++ z)) (imported_types_join xs ys) ∙ (ap (λ z. ts ++ z) (sym (append_assoc ss us vs)) ∙ sym (append_assoc ts (ss ++ us) vs))

pub imported_constructors_join : (xs ys : List (Bor Interface)) → imported_constructors (map (λ f. f.now) (xs ++ ys)) ≡ imported_constructors (map (λ f. f.now) xs) ++ imported_constructors (map (λ f. f.now) ys)
imported_constructors_join [] ys = refl
imported_constructors_join (f ∷ xs) ys =
    let cs = map constructor_description f.now.constructors in
    ap (λ z. cs ++ z) (imported_constructors_join xs ys) ∙ sym (append_assoc cs (imported_constructors (map (λ (g : Bor Interface). g.now) xs)) (imported_constructors (map (λ (g : Bor Interface). g.now) ys)))

-- one more number of arguments in a table

pub noted_known : (es : List (EntityKey × ℕ)) (k : EntityKey) (count x : ℕ) → Some x ≡ lookup (same_entity_key k) es → map known_arity es ≡ noted (map known_arity es) (known_arity (k, count))
noted_known es k count x h =
    let there : is_some (arity_among (map known_arity es) (entity_at k)) ≡ true = ap is_some (sym (arity_found k es) ∙ sym h) in
    sym (ap (λ b. cond b (map known_arity es) (map known_arity es ++ known_arity (k, count) ∷ [])) there)

pub noted_new : (m : IndexMap EntityKey ℕ (BuildHasherDefault FoldHasher)) (new : List (EntityKey × ℕ)) (k : EntityKey) (count : ℕ) → None ≡ lookup (same_entity_key k) m.entries → new ≡ insert_entry same_entity_key m.entries k count
    → map known_arity new ≡ noted (map known_arity m.entries) (known_arity (k, count))
noted_new m new k count h is =
    let absent : is_some (arity_among (map known_arity m.entries) (entity_at k)) ≡ false = ap is_some (sym (arity_found k m.entries) ∙ sym h) in
    ap (map known_arity) (is ∙ insert_entry-new same_entity_key m k count (sym h))
    ∙ (map-append known_arity m.entries ((k, count) ∷ []) ∙ sym (ap (λ b. cond b (map known_arity m.entries) (map known_arity m.entries ++ known_arity (k, count) ∷ [])) absent))

pub type_noted : (before : List TypeDescription) (ks new : List KnownArity) (ss : List KnownSynonym) (k : KnownArity) (d : TypeDescription) → new ≡ noted ks k → k.entity ≡ d.entity → k.arity ≡ arity d.meaning → imported_in d.meaning ≡ None
    → KnowsTypes before ks ss → KnowsTypes (before ++ d ∷ []) new ss
type_noted before ks new ss k d is same size own known = subst (λ (l : List KnownArity). KnowsTypes (before ++ d ∷ []) l ss) (sym is) (one_more_type before ks ss k d same size own known)

pub constructor_noted : (before : List ConstructorDescription) (ks new : List KnownArity) (k : KnownArity) (d : ConstructorDescription) → new ≡ noted ks k → k.entity ≡ d.entity → k.arity ≡ d.arguments
    → KnowsConstructors before ks → KnowsConstructors (before ++ d ∷ []) new
constructor_noted before ks new k d is same size known = subst (λ (l : List KnownArity). KnowsConstructors (before ++ d ∷ []) l) (sym is) (one_more_constructor before ks k d same size known)

-- an interface's synonym, whose entity is known
pub synonym_known : (before : List TypeDescription) (es : List (EntityKey × ℕ)) (ss : List KnownSynonym) (k : EntityKey) (d : TypeDescription) (x : ℕ) → Some x ≡ lookup (same_entity_key k) es → entity_at k ≡ d.entity
    → KnowsTypes before (map known_arity es) ss → KnowsTypes (before ++ d ∷ []) (map known_arity es) ss
synonym_known before es ss k d x h same known = record {
  arities = λ e. known.arities e ∙ ap arity_of_type (stays e);
  imported = λ e. known.imported e ∙ ap imported_of (stays e);
}
  where
    there : (e : Entity) → same_entity e d.entity ≡ true → arity_of_type (first_of (λ d. d.entity) e before) ≡ Some x
    there e t = sym (known.arities e) ∙ (ap (arity_among (map known_arity es)) ((same_entity-Decides e d.entity).0 t ∙ sym same) ∙ (sym (arity_found k es) ∙ sym h))

    go : (b : Option TypeDescription) (s : Bool) → (s ≡ true → arity_of_type b ≡ Some x) → b ≡ or_else b (cond s (Some d) None)
    go (Some y) s t = refl
    go None true t = absurd (let z : None ≡ Some x = t refl in cc)
    go None false t = refl

    stays : (e : Entity) → first_of (λ d. d.entity) e before ≡ first_of (λ d. d.entity) e (before ++ d ∷ [])
    stays e = go (first_of (λ d. d.entity) e before) (same_entity e d.entity) (there e) ∙ sym (first_in_both (λ d. d.entity) e before (d ∷ []))

-- and one that is new
pub synonym_new : (before : List TypeDescription) (m : IndexMap EntityKey ℕ (BuildHasherDefault FoldHasher)) (es : List (EntityKey × ℕ)) (ss new : List (EntityKey × Bor TypeSynonym)) (k : EntityKey) (d : TypeDescription) (s : Bor TypeSynonym) (count : ℕ)
    → None ≡ lookup (same_entity_key k) m.entries → es ≡ insert_entry same_entity_key m.entries k count → new ≡ insert_entry same_entity_key ss k s → entity_at k ≡ d.entity → d.meaning ≡ imported_synonym s.now → count ≡ s.now.parameters
    → KnowsTypes before (map known_arity m.entries) (map known_imported ss) → KnowsTypes (before ++ d ∷ []) (map known_arity es) (map known_imported new)
synonym_new before m es ss new k d s count none put put_too same means size known = record {
  arities = λ e. ap (λ (l : List KnownArity). arity_among l e) (noted_new m es k count none put)
      ∙ one_more (λ d. d.entity) arity_of_type refl (λ d. arity d.meaning) (λ d. refl) (map known_arity m.entries) before (known_arity (k, count)) d same (size ∙ sym (ap arity means)) known.arities e;
  imported = λ e.
      ap (λ (l : List (EntityKey × Bor TypeSynonym)). synonym_among (map known_imported l) e) put_too
      ∙ (put_found (λ (s : Bor TypeSynonym). s.now) ss k s e
      ∙ (ap (λ z. cond (same_entity e z) (Some s.now) (synonym_among (map known_imported ss) e)) same
      ∙ (go (first_of (λ d. d.entity) e before) (same_entity e d.entity) (synonym_among (map known_imported ss) e) (known.imported e) (absent e) ∙ ap imported_of (sym (first_in_both (λ d. d.entity) e before (d ∷ []))))));
}
  where
    absent : (e : Entity) → same_entity e d.entity ≡ true → arity_of_type (first_of (λ d. d.entity) e before) ≡ None
    absent e t = sym (known.arities e) ∙ (ap (arity_among (map known_arity m.entries)) ((same_entity-Decides e d.entity).0 t ∙ sym same) ∙ (sym (arity_found k m.entries) ∙ sym none))

    go : (b : Option TypeDescription) (t : Bool) (o : Option TypeSynonym) → o ≡ imported_of b → (t ≡ true → arity_of_type b ≡ None) → cond t (Some s.now) o ≡ imported_of (or_else b (cond t (Some d) None))
    go (Some y) true o h a = absurd (let z : Some (arity y.meaning) ≡ None = a refl in cc)
    go (Some y) false o h a = h
    go None true o h a = sym (ap imported_in means)
    go None false o h a = h

-- the module's own synonym, in front of those of interfaces
pub own_put : (own new : List (EntityKey × TypeSynonym)) (rest : List KnownSynonym) (k : EntityKey) (s : TypeSynonym) (e : Entity) → new ≡ insert_entry same_entity_key own k s
    → synonym_among (map known_own new ++ rest) e ≡ cond (same_entity e (entity_at k)) (Some s) (synonym_among (map known_own own ++ rest) e)
unfolding synonym_among
own_put own new rest k s e is =
    ap (λ z. known_synonym z) (first_in_both (λ (s : KnownSynonym). s.entity) e (map known_own new) rest)
    ∙ (split (first_of (λ s. s.entity) e (map known_own new)) (first_of (λ s. s.entity) e (map known_own own)) (same_entity e (entity_at k))
    (ap (λ (l : List (EntityKey × TypeSynonym)). synonym_among (map known_own l) e) is ∙ put_found (λ (s : TypeSynonym). s) own k s e)
    ∙ ap (λ z. cond (same_entity e (entity_at k)) (Some s) (known_synonym z)) (sym (first_in_both (λ (s : KnownSynonym). s.entity) e (map known_own own) rest)))
  where
    split : (a b : Option KnownSynonym) (t : Bool) → known_synonym a ≡ cond t (Some s) (known_synonym b)
        → known_synonym (or_else a (first_of (λ s. s.entity) e rest)) ≡ cond t (Some s) (known_synonym (or_else b (first_of (λ s. s.entity) e rest)))
    split (Some x) b true h = h
    split None b true h = absurd (let z : None ≡ Some s = h in cc)
    split (Some x) (Some y) false h = h
    split (Some x) None false h = absurd (let z : Some x.synonym ≡ None = h in cc)
    split None (Some y) false h = absurd (let z : None ≡ Some y.synonym = h in cc)
    split None None false h = refl

-- an interface after others

pub two_more : (K : List TypeDescription → Type 0) (before : List TypeDescription) (f : Interface) → K ((before ++ map type_description f.types) ++ map synonym_description f.synonyms)
    → K (before ++ (map type_description f.types ++ (map synonym_description f.synonyms ++ [])))
two_more K before f k =
    let ts = map type_description f.types in
    let ss = map synonym_description f.synonyms in
    subst K (append_assoc before ts ss ∙ ap (λ z. before ++ (ts ++ z)) (sym (append-nil ss))) k

pub one_more_row : (K : List ConstructorDescription → Type 0) (before : List ConstructorDescription) (f : Interface) → K (before ++ map constructor_description f.constructors)
    → K (before ++ (map constructor_description f.constructors ++ []))
one_more_row K before f k = subst K (ap (λ z. before ++ z) (sym (append-nil (map constructor_description f.constructors)))) k

pub described_all : {A D : Type 0} (h : List A → List D) (K : List D → Type 0) (before : List D) (xs : List A) (i : ℕ) → length xs ≤ i → K (before ++ h (take i xs)) → K (before ++ h xs)
described_all h K before xs i past k = subst (λ z. K (before ++ h z)) (take_all i xs past) k

pub declared_row : (K : List ConstructorDescription → Type 0) (before : List ConstructorDescription) (m : List ℕ) (t : Identifier) (cs : List DataConstructor) → K (before ++ map (described m t) cs)
    → K (before ++ (map (described m t) (constructor_list (constructors cs)) ++ []))
declared_row K before m t cs k = subst (λ z. K (before ++ z)) (ap (map (described m t)) (sym (listed cs)) ∙ sym (append-nil (map (described m t) (constructor_list (constructors cs))))) k
  where
    listed : (cs : List DataConstructor) → constructor_list (constructors cs) ≡ cs
    listed [] = refl
    listed (c ∷ cs) = ap (λ z. c ∷ z) (listed cs)

pub knows_nothing : (es : List (EntityKey × ℕ)) (ss : List (EntityKey × Bor TypeSynonym)) → es ≡ [] → ss ≡ [] → KnowsTypes [] (map known_arity es) (map known_imported ss)
unfolding arity_among synonym_among
knows_nothing es ss e s = record { arities = λ x. ap (λ (l : List (EntityKey × ℕ)). arity_among (map known_arity l) x) e; imported = λ x. ap (λ (l : List (EntityKey × Bor TypeSynonym)). synonym_among (map known_imported l) x) s }

pub knows_no_constructor : (es : List (EntityKey × ℕ)) → es ≡ [] → KnowsConstructors [] (map known_arity es)
unfolding arity_among
knows_no_constructor es e = record { arities = λ x. ap (λ (l : List (EntityKey × ℕ)). arity_among (map known_arity l) x) e }

-- the tables of a module

pub types_of_module : (m : Module) (fs : List Interface) (home : List ℕ) (ds : List Declaration) (ks : List KnownArity) (ss : List KnownSynonym) (own : List (EntityKey × TypeSynonym)) → home ≡ m.header.name.text → ds ≡ m.decls → own ≡ []
    → KnowsTypes (([] ++ declared_types home ds) ++ imported_types fs) ks ss → KnowsTypes (declared_types m.header.name.text m.decls ++ imported_types fs) ks (map known_own own ++ ss)
types_of_module m fs home ds ks ss own e d o known =
    subst (λ (l : List (EntityKey × TypeSynonym)). KnowsTypes (declared_types m.header.name.text m.decls ++ imported_types fs) ks (map known_own l ++ ss)) (sym o)
    (subst (λ (l : List Declaration). KnowsTypes (declared_types m.header.name.text l ++ imported_types fs) ks ss) d (subst (λ (x : List ℕ). KnowsTypes (declared_types x ds ++ imported_types fs) ks ss) e known))

pub constructors_of_module : (m : Module) (fs : List Interface) (home : List ℕ) (ds : List Declaration) (ks : List KnownArity) → home ≡ m.header.name.text → ds ≡ m.decls
    → KnowsConstructors (([] ++ declared_constructors home ds) ++ imported_constructors fs) ks → KnowsConstructors (declared_constructors m.header.name.text m.decls ++ imported_constructors fs) ks
constructors_of_module m fs home ds ks e d known =
    subst (λ (l : List Declaration). KnowsConstructors (declared_constructors m.header.name.text l ++ imported_constructors fs) ks) d (subst (λ (x : List ℕ). KnowsConstructors (declared_constructors x ds ++ imported_constructors fs) ks) e known)
