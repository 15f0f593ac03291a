-- Entries of an interface, one export after the other.
use Rattle.std.proofs.Common.{◌≡◌, ℕ, zero, suc, ◌+◌, ◌<◌, ◌≤◌, Bool, true, false, cond, List, [], ◌∷◌, ◌++◌, map, length, take, get_or, Option, None, Some, option_map, Bor, ◌⊎◌, inl, inr, ⊎_elim, refl, sym, ap, ◌∙◌, subst, arith, Contains, bytes_eq}
use Rattle.std.proofs.lemmas.Slice.Eq.{bytes_eq-Decides}
use Rattle.std.specs.Prelude.{◌↔◌}
use Rattle.std.specs.Cmp.Lexicographic.{slice_cmp}
use Rattle.std.specs.List.{AllByRecursion}
use Rattle.std.specs.List.Sorted.{IsStrictlySortedBy}
use Rattle.std.specs.Ordering.{nat_cmp}
use Rattle.std.specs.declared.cmp.Ordering.TheVariants.{Less}
use Rattle.std.proofs.lemmas.List.{take_more, take_all, map-append}
use Rattle.std.proofs.lemmas.List.Elements.{Contains-push, Contains-push_cases, Contains-append_left}
use Rattle.indexmap.specs.IndexMap.{get_by}
use Rattle.hm_types.specs.declared.Entity.{Entity}
use Rattle.hm_types.specs.declared.entries.TypeEntry.{TypeEntry}
use Rattle.hm_types.specs.declared.entries.SynonymEntry.{SynonymEntry}
use Rattle.hm_types.specs.declared.entries.ConstructorEntry.{ConstructorEntry}
use Rattle.hm_types.specs.declared.entries.ValueEntry.{ValueEntry}
use Rattle.hm_types.specs.Interfaces.{AreOrdered}
use Rattle.hm_types.specs.Schemes.{TypeScheme}
use Rattle.hm_types.specs.Synonyms.{TypeSynonym}
use Rattle.hm_syntax.specs.Names.{Identifier}
use Rattle.hm_syntax.specs.Trees.{TypeTree}
use Rattle.hm_names.specs.declared.cores.Exported.{Exported}
use Rattle.hm_scope_tables.specs.declared.keys.EntityKey.{EntityKey}
use Rattle.hm_scope_interface_entries.specs.declared.known_exports.KnownType.{KnownType}
use Rattle.hm_scope_interface_entries.specs.declared.known_exports.KnownType.TheVariants.{Algebraic}
use Rattle.hm_names.specs.Cores.{HasArity, HasSynonym, synonym_in, imported_values, IsDescribed, IsTop, HasScheme, own, other, ConstructorScheme, constructor_scheme, declared_schemes, imported_schemes, scheme_in}
use Rattle.hm_names.specs.Described.{algebraic, TypeDescription, type_meant, first_of, ConstructorDescription, constructor_meant, declared_constructors, imported_constructors, described}
use Rattle.hm_names.specs.Entities.{constructor_list, named}
use Rattle.hm_syntax.specs.Lists.{types}
use Rattle.hm_names.specs.DeclaredSchemes.{fact_in}
use Rattle.hm_names.proofs.Rows.{types_counted}
use Rattle.hm_names.specs.Texts.{same_entity, is_text_among}
use Rattle.hm_names.specs.SchemeTables.{scheme_of}
use Rattle.hm_scope_interface_entries.specs.declared.entries.Values.{Values}
use Rattle.hm_names.proofs.Standing.{among_decides}
use Rattle.hm_scope_interface_entries.specs.declared.known_exports.KnownConstructor.{KnownConstructor}
use Rattle.hm_syntax.specs.Trees.{DataConstructor, data_constructor, Declaration, data_declaration, newtype_declaration, synonym_declaration, signature, clause, pattern_binding}
use Rattle.hm_types.specs.Interfaces.{Exports as Interface}
use Rattle.hm_scope_interface_entries.specs.ExportedEntries.{AreEntries, AreTypesOf, AreTypeEntries, AreSynonymEntries, AreConstructorEntries, AreValueEntries, AreConstructorsOf, AreValuesOf}
use Rattle.hm_scope_interface_entries.specs.KnownExports.{Table, meaning_of, ConstructorSource, declared, imported, declared_sources, imported_sources, source_entity, source_of, fact}
use Rattle.hm_scope_tables.specs.KnownTables.{entity_at}
use Rattle.hm_names.specs.ModuleCores.{ModuleCore}
use Rattle.hm_scope_entities.specs.Owners.{same_key}
use Rattle.hm_names.proofs.Members.{none_in, cases, first, mapped}

-- Names in order

all_last : (P : List ℕ → Type 0) (ms : List (List ℕ)) (x : List ℕ) → AllByRecursion P (ms ++ x ∷ []) → P x
all_last P [] x h = h.0
all_last P (m ∷ ms) x h = all_last P ms x h.1

less_last : (ms : List (List ℕ)) (x y : List ℕ) → AreOrdered (ms ++ x ∷ []) → Contains ms y → slice_cmp nat_cmp y x ≡ Less
unfolding IsStrictlySortedBy
less_last [] x y h c = absurd (none_in y c)
less_last (m ∷ ms) x y h c = ⊎_elim (λ e. subst (λ z. slice_cmp nat_cmp z x ≡ Less) (sym e) (all_last (λ z. slice_cmp nat_cmp m z ≡ Less) ms x h.0)) (λ o. less_last ms x y h.1 o) (cases m ms y c)

all_push : (P : List ℕ → Type 0) (ns : List (List ℕ)) (x : List ℕ) → AllByRecursion P ns → P x → AllByRecursion P (ns ++ x ∷ [])
all_push P [] x h p = (p, tt)
all_push P (n ∷ ns) x h p = (h.0, all_push P ns x h.1 p)

ordered_push : (ns : List (List ℕ)) (x : List ℕ) → AreOrdered ns → ((y : List ℕ) → Contains ns y → slice_cmp nat_cmp y x ≡ Less) → AreOrdered (ns ++ x ∷ [])
unfolding IsStrictlySortedBy
ordered_push [] x h below = (tt, tt)
ordered_push (n ∷ ns) x h below = (all_push (λ z. slice_cmp nat_cmp n z ≡ Less) ns x h.0 (below n (first n ns)), ordered_push ns x h.1 (λ y c. below y (Rattle.hm_names.proofs.Members.rest n ns y c)))

ordered_none : AreOrdered []
unfolding IsStrictlySortedBy
ordered_none = tt

all_taken : (P : List ℕ → Type 0) (j : ℕ) (xs : List Exported) → AllByRecursion P (map (λ (x : Exported). x.name) xs) → AllByRecursion P (map (λ (x : Exported). x.name) (take j xs))
all_taken P zero xs h = tt
all_taken P (suc j) [] h = tt
all_taken P (suc j) (x ∷ xs) h = (h.0, all_taken P j xs h.1)

ordered_taken : (j : ℕ) (xs : List Exported) → AreOrdered (map (λ (x : Exported). x.name) xs) → AreOrdered (map (λ (x : Exported). x.name) (take j xs))
unfolding IsStrictlySortedBy
ordered_taken zero xs h = tt
ordered_taken (suc j) [] h = tt
ordered_taken (suc j) (x ∷ xs) h = (all_taken (λ y. slice_cmp nat_cmp x.name y ≡ Less) j xs h.0, ordered_taken j xs h.1)

abbrev names : List Exported → List (List ℕ)
names xs = map (λ (x : Exported). x.name) xs

-- One more export

module _ {R : Type 0} (name : R → List ℕ) (entity : R → Entity) (H : R → Type 0) where
  abbrev exported : R → Exported
  exported r = record { name = name r; entity = entity r }

  pub entries_none : (rs : List R) → rs ≡ [] → AreEntries name entity H [] rs
  entries_none rs e = subst (λ l. AreEntries name entity H [] l) (sym e) (record { exact = λ r. (λ c. absurd (none_in r c), λ (c, _). absurd (none_in (exported r) c)); ordered = ordered_none })

  module _ (xs : List Exported) (x : Exported) (rs : List R) (are : AreEntries name entity H xs rs) where
    pub entry_skipped : ((r : R) → entity r ≡ x.entity → ¬ (H r)) → AreEntries name entity H (xs ++ x ∷ []) rs
    entry_skipped none = record {
      exact = λ r. (
        (λ c. let h = (are.exact r).0 c in (Contains-append_left xs (x ∷ []) (exported r) h.0, h.1)),
        (λ (c, h). ⊎_elim (λ b. (are.exact r).1 (b, h)) (λ e. absurd (none r (sym (ap (λ (z : Exported). z.entity) e)) h)) (Contains-push_cases xs x (exported r) c)),
      );
      ordered = are.ordered;
    }

    pub entry_added : (r : R) (new : List R) → name r ≡ x.name → entity r ≡ x.entity → H r → ((q : R) → name q ≡ x.name → entity q ≡ x.entity → H q → q ≡ r) → AreOrdered (names (xs ++ x ∷ [])) → new ≡ rs ++ r ∷ [] → AreEntries name entity H (xs ++ x ∷ []) new
    entry_added r new n e h one up pushed = subst (λ l. AreEntries name entity H (xs ++ x ∷ []) l) (sym pushed) (record {
      exact = λ q. (
        (λ c. ⊎_elim (λ b. let k = (are.exact q).0 b in (Contains-append_left xs (x ∷ []) (exported q) k.0, k.1)) (λ l. subst (λ z. Contains (xs ++ x ∷ []) (exported z) × H z) l (subst (λ z. Contains (xs ++ x ∷ []) z) here (Contains-push xs x), h)) (Contains-push_cases rs r q c)),
        (λ (c, k). ⊎_elim (λ b. Contains-append_left rs (r ∷ []) q ((are.exact q).1 (b, k))) (λ l. subst (λ z. Contains (rs ++ r ∷ []) z) (sym (one q (sym (ap (λ (z : Exported). z.name) l)) (sym (ap (λ (z : Exported). z.entity) l)) k)) (Contains-push rs r)) (Contains-push_cases xs x (exported q) c)),
      );
      ordered = subst AreOrdered (sym (map-append name rs (r ∷ []))) (ordered_push (map name rs) (name r) are.ordered below);
    })
      where
        here : x ≡ exported r
        here = λ i. record { name = (sym n) i; entity = (sym e) i }

        below : (y : List ℕ) → Contains (map name rs) y → slice_cmp nat_cmp y (name r) ≡ Less
        below y c = let (q, (k, is)) = (mapped name rs y).0 c in
            subst (λ z. slice_cmp nat_cmp y z ≡ Less) (sym n)
            (less_last (names xs) x.name y (subst AreOrdered (map-append (λ (z : Exported). z.name) xs (x ∷ [])) up) ((mapped (λ (z : Exported). z.name) xs y).1 (exported q, (((are.exact q).0 k).0, is))))

  -- a loop over exports
  pub entries_more : (xs : List Exported) (i : ℕ) (x : Exported) (old new : List R) → i < length xs → x ≡ get_or xs i x → AreOrdered (names xs) → (AreOrdered (names (take i xs ++ x ∷ [])) → AreEntries name entity H (take i xs) old → AreEntries name entity H (take i xs ++ x ∷ []) new)
      → AreEntries name entity H (take i xs) old → AreEntries name entity H (take (i + 1) xs) new
  entries_more xs i x old new inside is up step before =
      let more : take (i + 1) xs ≡ take i xs ++ x ∷ [] = take_more xs i x inside ∙ ap (λ y. take i xs ++ y ∷ []) (sym is) in
      subst (λ l. AreEntries name entity H l new) (sym more) (step (subst (λ l. AreOrdered (names l)) more (ordered_taken (i + 1) xs up)) before)

  pub entries_start : (xs : List Exported) (rs : List R) → rs ≡ [] → AreEntries name entity H (take 0 xs) rs
  entries_start xs rs e = subst (λ l. AreEntries name entity H l rs) (start xs) (entries_none rs e)
    where
      start : (ys : List Exported) → [] ≡ take 0 ys
      start [] = refl
      start (y ∷ ys) = refl

  pub entries_all : (xs : List Exported) (i : ℕ) (rs : List R) → length xs ≤ i → AreEntries name entity H (take i xs) rs → AreEntries name entity H xs rs
  entries_all xs i rs past h = subst (λ l. AreEntries name entity H l rs) (take_all i xs past) h

-- Types and synonyms

module _ (c : ModuleCore) (table : Table KnownType) (known : AreTypesOf c table) (key : EntityKey) (e : Entity) (is : entity_at key ≡ e) where
  told : option_map meaning_of (get_by (same_key key) table) ≡ option_map (λ (d : TypeDescription). d.meaning) (type_meant c.name c.decls c.interfaces e)
  told = known key ∙ ap (λ z. option_map (λ (d : TypeDescription). d.meaning) (type_meant c.name c.decls c.interfaces z)) is

  pub unknown_type : None ≡ get_by (same_key key) table → (d : TypeDescription) → ¬ (type_meant c.name c.decls c.interfaces e ≡ Some d)
  unknown_type none d h = let f : None ≡ Some d.meaning = ap (option_map meaning_of) none ∙ told ∙ ap (option_map (λ (d : TypeDescription). d.meaning)) h in cc

  pub known_type : (v : KnownType) → Some v ≡ get_by (same_key key) table → (d : TypeDescription) × ((type_meant c.name c.decls c.interfaces e ≡ Some d) × (d.meaning ≡ meaning_of v))
  known_type v found = described (type_meant c.name c.decls c.interfaces e) (sym told ∙ ap (option_map meaning_of) (sym found))
    where
      described : (o : Option TypeDescription) → option_map (λ (d : TypeDescription). d.meaning) o ≡ Some (meaning_of v) → (d : TypeDescription) × ((o ≡ Some d) × (d.meaning ≡ meaning_of v))
      described None h = absurd (let f : None ≡ Some (meaning_of v) = h in cc)
      described (Some d) h = (d, (refl, let f : Some d.meaning ≡ Some (meaning_of v) = h in cc))

  pub no_arity : None ≡ get_by (same_key key) table → (k : ℕ) → ¬ (HasArity c e k)
  no_arity none k h = unknown_type none h.description h.is

  pub no_synonym : None ≡ get_by (same_key key) table → (s : TypeSynonym) → ¬ (HasSynonym c e s)
  no_synonym none s h = unknown_type none h.description h.is

  module _ (v : KnownType) (found : Some v ≡ get_by (same_key key) table) where
    same_meaning : (d : TypeDescription) → type_meant c.name c.decls c.interfaces e ≡ Some d → d.meaning ≡ meaning_of v
    same_meaning d h = let (k, (here, m)) = known_type v found in let f : Some d ≡ Some k = sym h ∙ here in let g : d ≡ k = cc in ap (λ (z : TypeDescription). z.meaning) g ∙ m

    pub arity_known : (k : ℕ) → v ≡ Algebraic k → HasArity c e k
    arity_known k a = let (d, (here, m)) = known_type v found in record { description = d; is = here; arity = m ∙ ap meaning_of a }

    pub one_arity : (k j : ℕ) → v ≡ Algebraic k → HasArity c e j → j ≡ k
    one_arity k j a h = let f : algebraic j ≡ algebraic k = sym h.arity ∙ same_meaning h.description h.is ∙ ap meaning_of a in cc

    pub arity_is_no_synonym : (k : ℕ) (s : TypeSynonym) → v ≡ Algebraic k → ¬ (HasSynonym c e s)
    arity_is_no_synonym k s a h = let f : None ≡ Some s = sym (ap synonym_in (same_meaning h.description h.is ∙ ap meaning_of a)) ∙ h.synonym in cc

    pub synonym_known : (s : TypeSynonym) → synonym_in (meaning_of v) ≡ Some s → HasSynonym c e s
    synonym_known s a = let (d, (here, m)) = known_type v found in record { description = d; is = here; synonym = ap synonym_in m ∙ a }

    pub one_synonym : (s t : TypeSynonym) → synonym_in (meaning_of v) ≡ Some s → HasSynonym c e t → t ≡ s
    one_synonym s t a h = let f : Some t ≡ Some s = sym h.synonym ∙ ap synonym_in (same_meaning h.description h.is) ∙ a in cc

    pub synonym_is_no_arity : (s : TypeSynonym) (k : ℕ) → synonym_in (meaning_of v) ≡ Some s → ¬ (HasArity c e k)
    synonym_is_no_arity s k a h = let f : None ≡ Some s = sym (ap synonym_in (sym (same_meaning h.description h.is) ∙ h.arity)) ∙ a in cc

module _ (table : Table KnownType) (key : EntityKey) (x : Exported) (is : entity_at key ≡ x.entity) (c : ModuleCore) (xs : List Exported) (known : AreTypesOf c table) (up : AreOrdered (names (xs ++ x ∷ []))) where
  pub types_skipped : (rs : List TypeEntry) → None ≡ get_by (same_key key) table → AreTypeEntries c xs rs → AreTypeEntries c (xs ++ x ∷ []) rs
  types_skipped rs none are = entry_skipped (λ (r : TypeEntry). r.name) (λ r. r.entity) (λ r. HasArity c r.entity r.arity) xs x rs are (λ r e h. no_arity c table known key x.entity is none r.arity (subst (λ z. HasArity c z r.arity) e h))

  pub synonyms_skipped : (rs : List SynonymEntry) → None ≡ get_by (same_key key) table → AreSynonymEntries c xs rs → AreSynonymEntries c (xs ++ x ∷ []) rs
  synonyms_skipped rs none are = entry_skipped (λ (r : SynonymEntry). r.name) (λ r. r.entity) (λ r. HasSynonym c r.entity r.synonym) xs x rs are (λ r e h. no_synonym c table known key x.entity is none r.synonym (subst (λ z. HasSynonym c z r.synonym) e h))

  module _ (v : KnownType) (found : Some v ≡ get_by (same_key key) table) where
    pub type_added : (k : ℕ) → v ≡ Algebraic k → (old new : List TypeEntry) → new ≡ old ++ record { name = x.name; entity = x.entity; arity = k } ∷ [] → AreTypeEntries c xs old → AreTypeEntries c (xs ++ x ∷ []) new
    type_added k a old new pushed are = entry_added (λ (r : TypeEntry). r.name) (λ r. r.entity) (λ r. HasArity c r.entity r.arity) xs x old are (record { name = x.name; entity = x.entity; arity = k }) new refl refl
        (arity_known c table known key x.entity is v found k a)
        (λ q n e h. λ i. record { name = n i; entity = e i; arity = (one_arity c table known key x.entity is v found k q.arity a (subst (λ z. HasArity c z q.arity) e h)) i }) up pushed

    pub no_synonym_added : (k : ℕ) → v ≡ Algebraic k → (rs : List SynonymEntry) → AreSynonymEntries c xs rs → AreSynonymEntries c (xs ++ x ∷ []) rs
    no_synonym_added k a rs are = entry_skipped (λ (r : SynonymEntry). r.name) (λ r. r.entity) (λ r. HasSynonym c r.entity r.synonym) xs x rs are (λ r e h. arity_is_no_synonym c table known key x.entity is v found k r.synonym a (subst (λ z. HasSynonym c z r.synonym) e h))

    pub synonym_added : (s : TypeSynonym) → synonym_in (meaning_of v) ≡ Some s → (old new : List SynonymEntry) → new ≡ old ++ record { name = x.name; entity = x.entity; synonym = s } ∷ [] → AreSynonymEntries c xs old → AreSynonymEntries c (xs ++ x ∷ []) new
    synonym_added s a old new pushed are = entry_added (λ (r : SynonymEntry). r.name) (λ r. r.entity) (λ r. HasSynonym c r.entity r.synonym) xs x old are (record { name = x.name; entity = x.entity; synonym = s }) new refl refl
        (synonym_known c table known key x.entity is v found s a)
        (λ q n e h. λ i. record { name = n i; entity = e i; synonym = (one_synonym c table known key x.entity is v found s q.synonym a (subst (λ z. HasSynonym c z q.synonym) e h)) i }) up pushed

    pub no_type_added : (s : TypeSynonym) → synonym_in (meaning_of v) ≡ Some s → (rs : List TypeEntry) → AreTypeEntries c xs rs → AreTypeEntries c (xs ++ x ∷ []) rs
    no_type_added s a rs are = entry_skipped (λ (r : TypeEntry). r.name) (λ r. r.entity) (λ r. HasArity c r.entity r.arity) xs x rs are (λ r e h. synonym_is_no_arity c table known key x.entity is v found s r.arity a (subst (λ z. HasArity c z r.arity) e h))

-- Constructors

pub none_is_not : {X : Type 0} (x : X) → None ≡ Some x → ⊥
none_is_not x h = cc

pub some_is_some : {X : Type 0} {a b : X} → Some a ≡ Some b → b ≡ a
some_is_some h = cc

first_mapped : {X Y : Type 0} (of : X → Entity) (to : Y → Entity) (f : X → Y) → ((x : X) → to (f x) ≡ of x) → (e : Entity) (xs : List X) → first_of to e (map f xs) ≡ option_map f (first_of of e xs)
first_mapped of to f same e [] = refl
first_mapped of to f same e (x ∷ xs) = ap (λ d. cond (same_entity e d) (Some (f x)) (first_of to e (map f xs))) (same x) ∙ go (same_entity e (of x)) (first_mapped of to f same e xs)
  where
    go : (b : Bool) → first_of to e (map f xs) ≡ option_map f (first_of of e xs) → cond b (Some (f x)) (first_of to e (map f xs)) ≡ option_map f (cond b (Some x) (first_of of e xs))
    go true h = refl
    go false h = h

module _ (m : List ℕ) where
  abbrev description_of : ConstructorSource → ConstructorDescription
  description_of s = record { entity = (fact m s).entity; owner = (fact m s).owner; arguments = (fact m s).arguments }

  abbrev scheme_of_source : ConstructorSource → ConstructorScheme
  scheme_of_source s = record { entity = (fact m s).entity; scheme = (fact m s).scheme }

  one_entity : (s : ConstructorSource) → (fact m s).entity ≡ source_entity m s
  one_entity (declared t ps (data_constructor n ts)) = refl
  one_entity (imported r) = refl

  in_row : (t : Identifier) (ps : List Identifier) (cs : List DataConstructor) → map (described m t) cs ≡ map description_of (map (declared t ps) cs)
  in_row t ps [] = refl
  in_row t ps (data_constructor n ts ∷ cs) = ap (λ l. described m t (data_constructor n ts) ∷ l) (in_row t ps cs)

  in_row_schemes : (t : Identifier) (ps : List Identifier) (cs : List DataConstructor) → map (scheme_in m t ps) cs ≡ map scheme_of_source (map (declared t ps) cs)
  in_row_schemes t ps [] = refl
  in_row_schemes t ps (data_constructor n ts ∷ cs) = ap (λ l. scheme_in m t ps (data_constructor n ts) ∷ l) (in_row_schemes t ps cs)

  joined : {X Y : Type 0} (f : X → Y) (xs ys : List X) (ks ls : List Y) → ks ≡ map f xs → ls ≡ map f ys → ks ++ ls ≡ map f (xs ++ ys)
  joined f xs ys ks ls a b = Rattle.std.proofs.Common.ap₂ (λ k l. k ++ l) a b ∙ sym (map-append f xs ys)

  one_of : (t : Identifier) (ps : List Identifier) (c : DataConstructor) → described m t c ≡ description_of (declared t ps c)
  one_of t ps (data_constructor n ts) = refl

  one_scheme_of : (t : Identifier) (ps : List Identifier) (c : DataConstructor) → scheme_in m t ps c ≡ scheme_of_source (declared t ps c)
  one_scheme_of t ps (data_constructor n ts) = refl

  declared_are : (ds : List Declaration) → declared_constructors m ds ≡ map description_of (declared_sources ds)
  declared_are [] = refl
  declared_are (data_declaration n ps cs ∷ ds) = joined description_of (map (declared n ps) (constructor_list cs)) (declared_sources ds) _ _ (in_row n ps (constructor_list cs)) (declared_are ds)
  declared_are (newtype_declaration n ps c ∷ ds) = Rattle.std.proofs.Common.ap₂ (λ k l. k ∷ l) (one_of n ps c) (declared_are ds)
  declared_are (synonym_declaration n ps t ∷ ds) = declared_are ds
  declared_are (signature ns t ∷ ds) = declared_are ds
  declared_are (clause n ps r ∷ ds) = declared_are ds
  declared_are (pattern_binding line column p r ∷ ds) = declared_are ds

  declared_schemes_are : (ds : List Declaration) → declared_schemes m ds ≡ map scheme_of_source (declared_sources ds)
  declared_schemes_are [] = refl
  declared_schemes_are (data_declaration n ps cs ∷ ds) = joined scheme_of_source (map (declared n ps) (constructor_list cs)) (declared_sources ds) _ _ (in_row_schemes n ps (constructor_list cs)) (declared_schemes_are ds)
  declared_schemes_are (newtype_declaration n ps c ∷ ds) = Rattle.std.proofs.Common.ap₂ (λ k l. k ∷ l) (one_scheme_of n ps c) (declared_schemes_are ds)
  declared_schemes_are (synonym_declaration n ps t ∷ ds) = declared_schemes_are ds
  declared_schemes_are (signature ns t ∷ ds) = declared_schemes_are ds
  declared_schemes_are (clause n ps r ∷ ds) = declared_schemes_are ds
  declared_schemes_are (pattern_binding line column p r ∷ ds) = declared_schemes_are ds

  entries_are : (rs : List ConstructorEntry) → map (λ (r : ConstructorEntry). record { entity = r.entity; owner = r.owner; arguments = r.arguments }) rs ≡ map description_of (map imported rs)
  entries_are [] = refl
  entries_are (r ∷ rs) = ap (λ l. record { entity = r.entity; owner = r.owner; arguments = r.arguments } ∷ l) (entries_are rs)

  entry_schemes_are : (rs : List ConstructorEntry) → map (λ (r : ConstructorEntry). record { entity = r.entity; scheme = r.scheme }) rs ≡ map scheme_of_source (map imported rs)
  entry_schemes_are [] = refl
  entry_schemes_are (r ∷ rs) = ap (λ l. record { entity = r.entity; scheme = r.scheme } ∷ l) (entry_schemes_are rs)

  imported_are : (fs : List Interface) → imported_constructors fs ≡ map description_of (imported_sources fs)
  imported_are [] = refl
  imported_are (f ∷ fs) = joined description_of (map imported f.constructors) (imported_sources fs) _ _ (entries_are f.constructors) (imported_are fs)

  imported_schemes_are : (fs : List Interface) → imported_schemes fs ≡ map scheme_of_source (imported_sources fs)
  imported_schemes_are [] = refl
  imported_schemes_are (f ∷ fs) = joined scheme_of_source (map imported f.constructors) (imported_sources fs) _ _ (entry_schemes_are f.constructors) (imported_schemes_are fs)

  module _ (ds : List Declaration) (fs : List Interface) (e : Entity) where
    meant_is : constructor_meant m ds fs e ≡ option_map description_of (first_of (source_entity m) e (declared_sources ds ++ imported_sources fs))
    meant_is = ap (λ l. first_of (λ (d : ConstructorDescription). d.entity) e l) (joined description_of (declared_sources ds) (imported_sources fs) _ _ (declared_are ds) (imported_are fs))
        ∙ first_mapped (source_entity m) (λ (d : ConstructorDescription). d.entity) description_of one_entity e (declared_sources ds ++ imported_sources fs)

    scheme_is_of : constructor_scheme m ds fs e ≡ option_map scheme_of_source (first_of (source_entity m) e (declared_sources ds ++ imported_sources fs))
    scheme_is_of = ap (λ l. first_of (λ (d : ConstructorScheme). d.entity) e l) (joined scheme_of_source (declared_sources ds) (imported_sources fs) _ _ (declared_schemes_are ds) (imported_schemes_are fs))
        ∙ first_mapped (source_entity m) (λ (d : ConstructorScheme). d.entity) scheme_of_source one_entity e (declared_sources ds ++ imported_sources fs)

module _ (c : ModuleCore) (table : Table KnownConstructor) (known : AreConstructorsOf c table) (key : EntityKey) (e : Entity) (is : entity_at key ≡ e) where
  source_told : option_map source_of (get_by (same_key key) table) ≡ option_map (λ (s : ConstructorSource). s) (first_of (source_entity c.name) e (declared_sources c.decls ++ imported_sources c.interfaces))
  source_told = known key ∙ ap (λ z. option_map (λ (s : ConstructorSource). s) (first_of (source_entity c.name) z (declared_sources c.decls ++ imported_sources c.interfaces))) is

  itself : (o : Option ConstructorSource) → option_map (λ (s : ConstructorSource). s) o ≡ o
  itself None = refl
  itself (Some s) = refl

  source_first : first_of (source_entity c.name) e (declared_sources c.decls ++ imported_sources c.interfaces) ≡ option_map source_of (get_by (same_key key) table)
  source_first = sym (itself (first_of (source_entity c.name) e (declared_sources c.decls ++ imported_sources c.interfaces))) ∙ sym source_told

  pub not_described : None ≡ get_by (same_key key) table → (t : Entity) (k : ℕ) (s : TypeScheme) → ¬ (IsDescribed c e t k s)
  not_described none t k s h =
      none_is_not (record { entity = e; owner = t; arguments = k }) (ap (option_map (description_of c.name)) (ap (option_map source_of) none ∙ sym source_first) ∙ sym (meant_is c.name c.decls c.interfaces e) ∙ h.description)

  module _ (v : KnownConstructor) (found : Some v ≡ get_by (same_key key) table) where
    here : first_of (source_entity c.name) e (declared_sources c.decls ++ imported_sources c.interfaces) ≡ Some (source_of v)
    here = source_first ∙ ap (option_map source_of) (sym found)

    at : (fact c.name (source_of v)).entity ≡ e
    at = one_entity c.name (source_of v) ∙ sym (Rattle.hm_names.proofs.Members.first_of-is (source_entity c.name) e (declared_sources c.decls ++ imported_sources c.interfaces) (source_of v) here).1

    is_meant : constructor_meant c.name c.decls c.interfaces e ≡ Some (description_of c.name (source_of v))
    is_meant = meant_is c.name c.decls c.interfaces e ∙ ap (option_map (description_of c.name)) here

    is_schemed : constructor_scheme c.name c.decls c.interfaces e ≡ Some (scheme_of_source c.name (source_of v))
    is_schemed = scheme_is_of c.name c.decls c.interfaces e ∙ ap (option_map (scheme_of_source c.name)) here

    pub is_described : IsDescribed c e (fact c.name (source_of v)).owner (fact c.name (source_of v)).arguments (fact c.name (source_of v)).scheme
    is_described = record {
      description = is_meant ∙ ap Some (λ i. record { entity = at i; owner = (fact c.name (source_of v)).owner; arguments = (fact c.name (source_of v)).arguments });
      scheme = is_schemed ∙ ap Some (λ i. record { entity = at i; scheme = (fact c.name (source_of v)).scheme });
    }

    pub one_described : (t : Entity) (k : ℕ) (s : TypeScheme) → IsDescribed c e t k s → (t ≡ (fact c.name (source_of v)).owner) × ((k ≡ (fact c.name (source_of v)).arguments) × (s ≡ (fact c.name (source_of v)).scheme))
    one_described t k s h =
        let f : Some (record { entity = e; owner = t; arguments = k }) ≡ Some (description_of c.name (source_of v)) = sym h.description ∙ is_meant in
        let g : Some (record { entity = e; scheme = s }) ≡ Some (scheme_of_source c.name (source_of v)) = sym h.scheme ∙ is_schemed in
        (ap (λ (d : ConstructorDescription). d.owner) (inside f), (ap (λ (d : ConstructorDescription). d.arguments) (inside f), ap (λ (d : ConstructorScheme). d.scheme) (inside g)))
      where
        inside : {X : Type 0} {a b : X} → Some a ≡ Some b → a ≡ b
        inside z = cc

module _ (table : Table KnownConstructor) (key : EntityKey) (x : Exported) (is : entity_at key ≡ x.entity) (c : ModuleCore) (xs : List Exported) (known : AreConstructorsOf c table) (up : AreOrdered (names (xs ++ x ∷ []))) where
  pub constructors_skipped : (rs : List ConstructorEntry) → None ≡ get_by (same_key key) table → AreConstructorEntries c xs rs → AreConstructorEntries c (xs ++ x ∷ []) rs
  constructors_skipped rs none are = entry_skipped (λ (r : ConstructorEntry). r.name) (λ r. r.entity) (λ r. IsDescribed c r.entity r.owner r.arguments r.scheme) xs x rs are
      (λ r e h. not_described c table known key x.entity is none r.owner r.arguments r.scheme (subst (λ z. IsDescribed c z r.owner r.arguments r.scheme) e h))

  pub constructor_added : (v : KnownConstructor) → Some v ≡ get_by (same_key key) table → (t : Entity) (k : ℕ) (s : TypeScheme) → t ≡ (fact c.name (source_of v)).owner → k ≡ (fact c.name (source_of v)).arguments → s ≡ (fact c.name (source_of v)).scheme
      → (old new : List ConstructorEntry) → new ≡ old ++ record { name = x.name; entity = x.entity; owner = t; arguments = k; scheme = s } ∷ [] → AreConstructorEntries c xs old → AreConstructorEntries c (xs ++ x ∷ []) new
  constructor_added v found t k s et ek es old new pushed are = entry_added (λ (r : ConstructorEntry). r.name) (λ r. r.entity) (λ r. IsDescribed c r.entity r.owner r.arguments r.scheme) xs x old are
      (record { name = x.name; entity = x.entity; owner = t; arguments = k; scheme = s }) new refl refl
      (subst (λ z. IsDescribed c x.entity z k s) (sym et) (subst (λ z. IsDescribed c x.entity (fact c.name (source_of v)).owner z s) (sym ek) (subst (λ z. IsDescribed c x.entity (fact c.name (source_of v)).owner (fact c.name (source_of v)).arguments z) (sym es) (is_described c table known key x.entity is v found))))
      (λ q n e h. let o = one_described c table known key x.entity is v found q.owner q.arguments q.scheme (subst (λ z. IsDescribed c z q.owner q.arguments q.scheme) e h) in
      λ i. record { name = n i; entity = e i; owner = (o.0 ∙ sym et) i; arguments = (o.1.0 ∙ sym ek) i; scheme = (o.1.1 ∙ sym es) i }) up pushed

pub counted : (m : List ℕ) (t : Identifier) (ps : List Identifier) (n : Identifier) (ts : List TypeTree) (d : DataConstructor) → data_constructor n (types ts) ≡ d → length ts ≡ (fact_in m t ps d).arguments
counted m t ps n ts d v = sym (types_counted ts) ∙ ap (λ (c : DataConstructor). (fact_in m t ps c).arguments) v

pub owned : (m : List ℕ) (t : Identifier) (ps : List Identifier) (d : DataConstructor) → named m t.text ≡ (fact_in m t ps d).owner
owned m t ps (data_constructor n ts) = refl

-- Values

module _ (c : ModuleCore) (given : List ℕ → Option TypeScheme) (xs : List Exported) (x : Exported) (up : AreOrdered (names (xs ++ x ∷ []))) where
  pub values_skipped : (rs : List ValueEntry) → ((t : TypeScheme) → ¬ (HasScheme c given x.entity t)) → AreValueEntries c given xs rs → AreValueEntries c given (xs ++ x ∷ []) rs
  values_skipped rs none are = entry_skipped (λ (r : ValueEntry). r.name) (λ r. r.entity) (λ r. HasScheme c given r.entity r.scheme) xs x rs are (λ r e h. none r.scheme (subst (λ z. HasScheme c given z r.scheme) e h))

  pub value_added : (t : TypeScheme) → HasScheme c given x.entity t → ((u : TypeScheme) → HasScheme c given x.entity u → u ≡ t) → (old new : List ValueEntry) → new ≡ old ++ record { name = x.name; entity = x.entity; scheme = t } ∷ [] → AreValueEntries c given xs old → AreValueEntries c given (xs ++ x ∷ []) new
  value_added t h one old new pushed are = entry_added (λ (r : ValueEntry). r.name) (λ r. r.entity) (λ r. HasScheme c given r.entity r.scheme) xs x old are (record { name = x.name; entity = x.entity; scheme = t }) new refl refl h
      (λ q n e k. λ i. record { name = n i; entity = e i; scheme = (one q.scheme (subst (λ z. HasScheme c given z q.scheme) e k)) i }) up pushed

module _ (c : ModuleCore) (v : Values) (are : AreValuesOf c v) (e : Entity) where
  unlike : {b : Bool} → b ≡ true → b ≡ false → ⊥
  unlike p q = cc

  within : {X : Type 0} {a b : X} → Some a ≡ Some b → a ≡ b
  within z = cc

  own_given : {t : TypeScheme} → IsTop c e → HasScheme c (scheme_of v.schemes.now) e t → scheme_of v.schemes.now e.name ≡ Some t
  own_given top (own is g) = g
  own_given top (other away f s) = absurd (away top)

  pub own_scheme : (o : Option (Bor TypeScheme)) (a b : List ℕ) (p q : Bool) → p ≡ bytes_eq a v.home.now → p ≡ true → q ≡ is_text_among b v.own → q ≡ true → a ≡ e.«module» → b ≡ e.name
      → option_map (λ x. x.now) o ≡ scheme_of v.schemes.now b → (t : TypeScheme) → (option_map (λ x. x.now) o ≡ Some t) ↔ HasScheme c (scheme_of v.schemes.now) e t
  own_scheme o a b p q pe pt qe qt am bn got t =
      let top : IsTop c e = (are.top e).1 (sym am ∙ ((bytes_eq-Decides a v.home.now).0 (sym pe ∙ pt) ∙ are.home), subst (λ x. Contains v.own x) bn ((among_decides b v.own).0 (sym qe ∙ qt))) in
      (λ h. own top (ap (scheme_of v.schemes.now) (sym bn) ∙ (sym got ∙ h)), λ h. got ∙ (ap (scheme_of v.schemes.now) bn ∙ own_given top h))

  pub elsewhere : (a : List ℕ) (p : Bool) → p ≡ bytes_eq a v.home.now → p ≡ false → a ≡ e.«module» → ¬ (IsTop c e)
  elsewhere a p pe pf am top = unlike (pe ∙ (bytes_eq-Decides a v.home.now).1 (am ∙ (((are.top e).0 top).0 ∙ sym are.home))) pf

  pub unbound : (b : List ℕ) (q : Bool) → q ≡ is_text_among b v.own → q ≡ false → b ≡ e.name → ¬ (IsTop c e)
  unbound b q qe qf bn top = unlike (qe ∙ (among_decides b v.own).1 (subst (λ x. Contains v.own x) (sym bn) ((are.top e).0 top).1)) qf

  module _ (key : EntityKey) (is : entity_at key ≡ e) (away : ¬ (IsTop c e)) where
    same : (o : Option ValueEntry) → option_map (λ (d : ValueEntry). d) o ≡ o
    same None = refl
    same (Some d) = refl

    first_is : first_of (λ (w : ValueEntry). w.entity) e (imported_values c.interfaces) ≡ option_map (λ r. r.now) (get_by (same_key key) v.imported)
    first_is = sym (same (first_of (λ (w : ValueEntry). w.entity) e (imported_values c.interfaces))) ∙ sym (are.imported key ∙ ap (λ z. option_map (λ (d : ValueEntry). d) (first_of (λ (w : ValueEntry). w.entity) z (imported_values c.interfaces))) is)

    other_given : {t : TypeScheme} → HasScheme c (scheme_of v.schemes.now) e t → (r : ValueEntry) × ((first_of (λ (w : ValueEntry). w.entity) e (imported_values c.interfaces) ≡ Some r) × (t ≡ r.scheme))
    other_given (own is g) = absurd (away is)
    other_given (other {r} o f s) = (r, (f, s))

    pub no_scheme : (o : Option (Bor TypeScheme)) → o ≡ None → None ≡ get_by (same_key key) v.imported → (t : TypeScheme) → (option_map (λ x. x.now) o ≡ Some t) ↔ HasScheme c (scheme_of v.schemes.now) e t
    no_scheme o none missing t = (λ h. absurd (none_is_not t (sym (ap (option_map (λ (x : Bor TypeScheme). x.now)) none) ∙ h)), λ h. let g = other_given h in absurd (none_is_not g.0 (ap (option_map (λ (r : Bor ValueEntry). r.now)) missing ∙ (sym first_is ∙ g.1.0))))

    pub some_scheme : (r : Bor ValueEntry) → Some r ≡ get_by (same_key key) v.imported → (t : TypeScheme) → (Some r.now.scheme ≡ Some t) ↔ HasScheme c (scheme_of v.schemes.now) e t
    some_scheme r found t =
        let first : first_of (λ (w : ValueEntry). w.entity) e (imported_values c.interfaces) ≡ Some r.now = first_is ∙ ap (option_map (λ (r : Bor ValueEntry). r.now)) (sym found) in
        (λ h. other away first (sym (within h)), λ h. let g = other_given h in ap Some (ap (λ (w : ValueEntry). w.scheme) (within (sym first ∙ g.1.0)) ∙ sym g.1.1))
