-- A module's synonyms, finished one after another, are what a resolver of the module has.
use Rattle.std.proofs.Common.{◌≡◌, ℕ, zero, suc, ◌+◌, ◌<◌, ◌≤◌, Bool, true, false, cond, filter, List, [], ◌∷◌, ◌++◌, map, length, take, get_or, Option, Some, ◌⊎◌, inl, inr, ⊎_elim, refl, sym, ap, ◌∙◌, subst, Contains, arith}
use Rattle.std.specs.Prelude.{slice_index_or}
use Rattle.std.proofs.lemmas.Bool.{cases_Bool}
use Rattle.std.proofs.lemmas.List.{take_more, get_or_default, length-map}
use Rattle.std.proofs.lemmas.List.Elements.{Contains-push_cases, Contains-get_or}
use Rattle.hm_types.specs.declared.Entity.{Entity}
use Rattle.hm_types.specs.Interfaces.{Exports as Interface}
use Rattle.hm_graph_components.specs.Closure.{Closure, one, more}
use Rattle.hm_graph_components.specs.Digraph.{Graph, Edge}
use Rattle.hm_graph_components.specs.Digraph.{Reaches as GraphReaches}
use Rattle.hm_syntax.specs.Names.{Identifier}
use Rattle.hm_syntax.specs.Trees.{TypeTree, Declaration, data_declaration, newtype_declaration, synonym_declaration, signature, clause, pattern_binding}
use Rattle.hm_syntax.specs.Lists.{declarations}
use Rattle.hm_syntax.specs.declared.ast.Module.{Module}
use Rattle.hm_names.specs.declared.namespace.Namespace.TheVariants.{Types}
use Rattle.hm_scope.specs.declared.declared_synonyms.OwnSynonym.{OwnSynonym}
use Rattle.hm_scope.specs.declared.declared_synonyms.OwnSynonyms.{OwnSynonyms}
use Rattle.hm_names.specs.declared.faults.Kind.TheVariants.{Duplicate}
use Rattle.hm_names.specs.Texts.{same_entity}
use Rattle.hm_names.specs.Variables.{constructors_in}
use Rattle.hm_names.specs.Entities.{named, own}
use Rattle.hm_names.specs.Scope.{Means}
use Rattle.hm_names.specs.Described.{first_of, TypeMeaning, algebraic, declared_synonym, imported_synonym, TypeDescription, declared_types, imported_types, type_meant}
use Rattle.hm_names.specs.Expansion.{as_entity}
use Rattle.hm_names.specs.Types.{entity_of, synonym_of}
use Rattle.hm_names.specs.Resolved.{Resolver, IsResolver, synonym_meant, type_with}
use Rattle.hm_names.specs.Bindings.{Pair, IsScopeOf, entity, meaning_of, meaning_in}
use Rattle.hm_names.specs.Found.{KnownSynonym, KnownArity, lookups_in, resolver_of, resolved_name, as_meant, synonym_among}
use Rattle.hm_scope_tables.specs.KnownTables.{KnownTables, AreTablesOf, imported_of, imported_in, lookups_of}
use Rattle.hm_names.specs.Faults.Lists.{Repeats, type_names, second_type}
use Rattle.hm_names.specs.Faults.Arities.{refers, Reaches}
use Rattle.hm_names.specs.Faults.Phases.{IsWellFormed, Declaring, fault}
use Rattle.hm_names.specs.DeclaredSynonyms.{IsSound}
use Rattle.hm_scope.specs.NeededSynonyms.{IsNeededOrder, ResolvesNeeded}
use Rattle.hm_scope.specs.Synonyms.{DeclaresSynonym, AreOwnSynonyms, IsReferenceGraph, IsSettled, IsExpandable, Finishes}
use Rattle.hm_scope.proofs.NeededOrders.{in_filter, whole_place}
use Rattle.hm_names.proofs.Members.{none_in, cases, first, rest, name_discrete, optional_synonym_discrete, same_entity-Decides}
use Rattle.hm_names.proofs.Listings.{both_dec}
use Rattle.hm_names.proofs.Meant.{meant, one_meaning}
use Rattle.hm_names.proofs.Synonyms.{is_declared, is_described, not_recursive}
use Rattle.hm_names.proofs.Agreement.{nothing_wrong, clean_right_sides, clear_type, Alike, same_type, stably}
use Rattle.hm_scope.proofs.References.{reached}
use Rattle.hm_names.proofs.SoundDeclarations.{sound}

-- What a well-formed module says of its synonyms

in_names : (ds : List Declaration) (n : Identifier) (ps : List Identifier) (t : TypeTree) → Contains ds (synonym_declaration n ps t) → Contains (type_names (declarations ds)) n
in_names [] n ps t c = absurd (none_in (synonym_declaration n ps t) c)
in_names (data_declaration k qs cs ∷ ds) n ps t c = elim (cases _ ds (synonym_declaration n ps t) c) [ inl e ↦ absurd (cc) | inr o ↦ rest k _ n (in_names ds n ps t o) ]
in_names (newtype_declaration k qs b ∷ ds) n ps t c = elim (cases _ ds (synonym_declaration n ps t) c) [ inl e ↦ absurd (cc) | inr o ↦ rest k _ n (in_names ds n ps t o) ]
in_names (synonym_declaration k qs u ∷ ds) n ps t c = elim (cases _ ds (synonym_declaration n ps t) c) [
  | inl e ↦ let same : n ≡ k = cc in subst (λ z. Contains (k ∷ type_names (declarations ds)) z) (sym same) (first k (type_names (declarations ds)))
  | inr o ↦ rest k _ n (in_names ds n ps t o)
]
in_names (signature ns u ∷ ds) n ps t c = elim (cases _ ds (synonym_declaration n ps t) c) [ inl e ↦ absurd (cc) | inr o ↦ in_names ds n ps t o ]
in_names (clause k qs g ∷ ds) n ps t c = elim (cases _ ds (synonym_declaration n ps t) c) [ inl e ↦ absurd (cc) | inr o ↦ in_names ds n ps t o ]
in_names (pattern_binding a b p g ∷ ds) n ps t c = elim (cases _ ds (synonym_declaration n ps t) c) [ inl e ↦ absurd (cc) | inr o ↦ in_names ds n ps t o ]

abbrev described_as : List ℕ → Identifier → List Identifier → TypeTree → TypeDescription
described_as m n ps t = record { entity = named m n.text; meaning = declared_synonym ps t }

-- behind a type of another name
behind : (m : List ℕ) (n k : Identifier) (d : TypeDescription) (ns : List Identifier) (xs : List TypeDescription) (o : Option TypeDescription) → d.entity ≡ named m k.text → Contains ns n → ((j : Identifier) → ¬ (Repeats (k ∷ ns) j))
    → first_of (λ d. d.entity) (named m n.text) xs ≡ o → first_of (λ d. d.entity) (named m n.text) (d ∷ xs) ≡ o
behind m n k d ns xs o is c distinct h = elim (cases_Bool (same_entity (named m n.text) d.entity)) [
  | inl t ↦ absurd (distinct n (inl (c, ap (λ (e : Entity). e.name) ((same_entity-Decides (named m n.text) d.entity).0 t ∙ is))))
  | inr f ↦ ap (λ b. cond b (Some d) (first_of (λ (d : TypeDescription). d.entity) (named m n.text) xs)) f ∙ h
]

first_here : (m : List ℕ) (ds : List Declaration) (xs : List TypeDescription) (n : Identifier) (ps : List Identifier) (t : TypeTree) → ((j : Identifier) → ¬ (Repeats (type_names (declarations ds)) j)) → Contains ds (synonym_declaration n ps t)
    → first_of (λ d. d.entity) (named m n.text) (declared_types m ds ++ xs) ≡ Some (described_as m n ps t)
first_here m [] xs n ps t distinct c = absurd (none_in (synonym_declaration n ps t) c)
first_here m (data_declaration k qs cs ∷ ds) xs n ps t distinct c = elim (cases _ ds (synonym_declaration n ps t) c) [
  | inl e ↦ absurd (cc)
  | inr o ↦ behind m n k _ (type_names (declarations ds)) _ _ refl (in_names ds n ps t o) distinct (first_here m ds xs n ps t (λ j r. distinct j (inr r)) o)
]
first_here m (newtype_declaration k qs b ∷ ds) xs n ps t distinct c = elim (cases _ ds (synonym_declaration n ps t) c) [
  | inl e ↦ absurd (cc)
  | inr o ↦ behind m n k _ (type_names (declarations ds)) _ _ refl (in_names ds n ps t o) distinct (first_here m ds xs n ps t (λ j r. distinct j (inr r)) o)
]
first_here m (synonym_declaration k qs u ∷ ds) xs n ps t distinct c = elim (cases _ ds (synonym_declaration n ps t) c) [
  | inl e ↦
      let names : n ≡ k = cc in
      let parameters : ps ≡ qs = cc in
      let sides : t ≡ u = cc in
      let yes_it : same_entity (named m n.text) (named m k.text) ≡ true = (same_entity-Decides (named m n.text) (named m k.text)).1 (ap (λ (z : Identifier). named m z.text) names) in
      ap (λ b. cond b (Some (described_as m k qs u)) (first_of (λ (d : TypeDescription). d.entity) (named m n.text) (declared_types m ds ++ xs))) yes_it ∙ sym (λ i. Some (described_as m (names i) (parameters i) (sides i)))
  | inr o ↦ behind m n k _ (type_names (declarations ds)) _ _ refl (in_names ds n ps t o) distinct (first_here m ds xs n ps t (λ j r. distinct j (inr r)) o)
]
first_here m (signature ns u ∷ ds) xs n ps t distinct c = elim (cases _ ds (synonym_declaration n ps t) c) [ inl e ↦ absurd (cc) | inr o ↦ first_here m ds xs n ps t distinct o ]
first_here m (clause k qs g ∷ ds) xs n ps t distinct c = elim (cases _ ds (synonym_declaration n ps t) c) [ inl e ↦ absurd (cc) | inr o ↦ first_here m ds xs n ps t distinct o ]
first_here m (pattern_binding a b p g ∷ ds) xs n ps t distinct c = elim (cases _ ds (synonym_declaration n ps t) c) [ inl e ↦ absurd (cc) | inr o ↦ first_here m ds xs n ps t distinct o ]

-- a declared synonym is what its entity is described as
pub own_meant : (m : Module) (fs : List Interface) → IsWellFormed m fs → (n : Identifier) (ps : List Identifier) (t : TypeTree) → Contains m.decls (synonym_declaration n ps t)
    → type_meant m.header.name.text m.decls fs (own m n.text) ≡ Some (described_as m.header.name.text n ps t)
own_meant m fs w n ps t c = first_here m.header.name.text m.decls (imported_types fs) n ps t (λ j r. w Declaring (fault Duplicate j) (record { kind = Duplicate; name = j; stands = inl (second_type r); is = refl })) c

-- Expansion with settled synonyms

module _ (m : Module) (fs : List Interface) (pairs : List Pair) (scope : IsScopeOf m fs pairs) (r : Resolver) (resolves : IsResolver m fs r) (w : IsWellFormed m fs) where
  name_is : (o : Identifier) (e : Entity) → Means m fs Types o e → resolved_name pairs Types [] o ≡ as_entity o e
  unfolding resolved_name meaning_in
  name_is o e h = ap (λ z. as_meant z o) (one_meaning m fs Types o (meaning_of pairs Types o) (entity e) (meant m fs pairs scope Types o) h)

  -- a right side is expanded as by the resolver, where its synonyms are settled
  pub same_expansion : (ss : List KnownSynonym) (ts cs : List KnownArity) (n : Identifier) (ps : List Identifier) (t : TypeTree) → Contains m.decls (synonym_declaration n ps t)
      → ((o : Identifier) (e : Entity) → Contains (constructors_in t) o → Means m fs Types o e → IsSettled r ss e) → type_with (resolver_of (lookups_in pairs ss ts cs)) t ≡ type_with r t
  same_expansion ss ts cs n ps t c settled = same_type k r t (λ o i. let clear = clear_type m fs [] t (clean_right_sides m fs m.decls (nothing_wrong m fs w) n ps t c) o i in stably m fs Types o (dec o) clear.0 clear.1 (λ e h. alike o e i h))
    where
      k : Resolver
      k = resolver_of (lookups_in pairs ss ts cs)

      dec : (o : Identifier) → Dec (Alike k r o)
      dec o = both_dec (name_discrete (k.name Types [] o) (r.name Types [] o)) (optional_synonym_discrete (k.synonym (entity_of (k.name Types [] o))) (r.synonym (entity_of (r.name Types [] o))))

      alike : (o : Identifier) (e : Entity) → Contains (constructors_in t) o → Means m fs Types o e → Alike k r o
      alike o e i h =
          let one = name_is o e h in
          let other = resolves.type [] o e h in
          (one ∙ sym other, ap (λ z. synonym_among ss (entity_of z)) one ∙ (settled o e i h ∙ sym (ap (λ z. r.synonym (entity_of z)) other)))

  -- the synonym is then the resolver's
  pub is_settled : (ss : List KnownSynonym) (ts cs : List KnownArity) (n : Identifier) (ps : List Identifier) (t : TypeTree) → Contains m.decls (synonym_declaration n ps t)
      → ((o : Identifier) (e : Entity) → Contains (constructors_in t) o → Means m fs Types o e → IsSettled r ss e) → Some (synonym_of ps (type_with (resolver_of (lookups_in pairs ss ts cs)) t)) ≡ r.synonym (own m n.text)
  is_settled ss ts cs n ps t c settled = ap (λ z. Some (synonym_of ps z)) (same_expansion ss ts cs n ps t c settled) ∙ sym (resolves.synonym (own m n.text) (described_as m.header.name.text n ps t) (own_meant m fs w n ps t c))

-- One synonym more

pub finishes_more : (m : Module) (fs : List Interface) (r : Resolver) (pairs : List Pair) (home : List ℕ) (declared : List OwnSynonym) (order : List ℕ) (i number : ℕ) (start old new : KnownTables)
    → IsScopeOf m fs pairs → home ≡ m.header.name.text → IsExpandable m fs r declared order start.synonyms → i < length order → number ≡ get_or order i 0
    → (length declared ≤ number → new.synonyms ≡ old.synonyms)
    → ((d : OwnSynonym) → number < length declared → (e : Entity) → same_entity e (named home (slice_index_or declared number d).name.now.text) ≡ false → synonym_among new.synonyms e ≡ synonym_among old.synonyms e)
    → ((d : OwnSynonym) → number < length declared → IsSound (slice_index_or declared number d).params.now (slice_index_or declared number d).ty.now → (e : Entity) → same_entity e (named home (slice_index_or declared number d).name.now.text) ≡ true
    → synonym_among new.synonyms e ≡ Some (synonym_of (slice_index_or declared number d).params.now (type_with (resolver_of (lookups_of pairs old)) (slice_index_or declared number d).ty.now)))
    → Finishes r home declared (take i order) start.synonyms old.synonyms → Finishes r home declared (take (i + 1) order) start.synonyms new.synonyms
finishes_more m fs r pairs home declared order i number start old new scope here expands inside is none others synonym done = subst (λ l. Finishes r home declared l start.synonyms new.synonyms) (sym all) (record {
  kept = λ e s. stays e (done.kept e s);
  finished = λ k d c h. elim (Contains-push_cases (take i order) number k c) [
    | inl b ↦ stays (named home (slice_index_or declared k d).name.now.text) (done.finished k d b h)
    | inr q ↦ subst (λ (z : ℕ). IsSettled r new.synonyms (named home (slice_index_or declared z d).name.now.text)) q
        (at_key (named home (slice_index_or declared number d).name.now.text) d (subst (λ z. z < length declared) (sym q) h)
        ((same_entity-Decides (named home (slice_index_or declared number d).name.now.text) (named home (slice_index_or declared number d).name.now.text)).1 refl))
  ];
})
  where
    all : take (i + 1) order ≡ take i order ++ number ∷ []
    all = take_more order i 0 inside ∙ ap (λ z. take i order ++ z ∷ []) (sym is)

    -- the new synonym is the resolver's
    right : (d : OwnSynonym) → number < length declared → Some (synonym_of (slice_index_or declared number d).params.now (type_with (resolver_of (lookups_of pairs old)) (slice_index_or declared number d).ty.now)) ≡ r.synonym (own m (slice_index_or declared number d).name.now.text)
    right d h =
        let s = slice_index_or declared number d in
        is_settled m fs pairs scope r expands.resolver expands.well_formed old.synonyms old.types old.constructors s.name.now s.params.now s.ty.now (expands.stand s (Contains-get_or declared number d h))
        (λ o e c means. ⊎_elim (λ k. done.kept e k) (λ k. subst (λ z. IsSettled r old.synonyms z) (ap (λ x. named x (slice_index_or declared k.0 d).name.now.text) here ∙ sym k.1.1.1) (done.finished k.0 d k.1.0 k.1.1.0))
        (expands.ready i d o e inside (subst (λ z. z < length declared) is h) (subst (λ z. Contains (constructors_in (slice_index_or declared z d).ty.now) o) is c) means))

    sound_here : (d : OwnSynonym) → number < length declared → IsSound (slice_index_or declared number d).params.now (slice_index_or declared number d).ty.now
    sound_here d h = let s = slice_index_or declared number d in sound m fs expands.well_formed s.name.now s.params.now s.ty.now (expands.stand s (Contains-get_or declared number d h))

    at_key : (e : Entity) (d : OwnSynonym) → number < length declared → same_entity e (named home (slice_index_or declared number d).name.now.text) ≡ true → IsSettled r new.synonyms e
    at_key e d h t = synonym d h (sound_here d h) e t ∙ (right d h ∙ ap r.synonym (ap (λ x. named x (slice_index_or declared number d).name.now.text) (sym here) ∙ sym ((same_entity-Decides e (named home (slice_index_or declared number d).name.now.text)).0 t)))

    below : (a b : ℕ) → (a < b) ⊎ (b ≤ a)
    below zero zero = inr (omega arith)
    below zero (suc b) = inl (omega arith)
    below (suc a) zero = inr (omega arith)
    below (suc a) (suc b) = elim (below a b) [ inl h ↦ inl (omega (arith, h)) | inr h ↦ inr (omega (arith, h)) ]

    some_of : (l : List OwnSynonym) → number < length l → OwnSynonym
    some_of [] h = absurd (omega (arith, h))
    some_of (d ∷ ds) h = d

    stays : (e : Entity) → IsSettled r old.synonyms e → IsSettled r new.synonyms e
    stays e s = elim (below number (length declared)) [
      | inr past ↦ ap (λ l. synonym_among l e) (none past) ∙ s
      | inl h ↦
          let d = some_of declared h in
          elim (cases_Bool (same_entity e (named home (slice_index_or declared number d).name.now.text))) [
            | inl t ↦ at_key e d h t
            | inr f ↦ others d h e f ∙ s
          ]
    ]

-- All of them

module _ (m : Module) (fs : List Interface) (pairs : List Pair) (scope : IsScopeOf m fs pairs) (r : Resolver) (resolves : IsResolver m fs r) (w : IsWellFormed m fs) (synonyms : OwnSynonyms) (are : AreOwnSynonyms m.decls synonyms) (graph : Graph) (references : IsReferenceGraph m fs synonyms.names graph)
    (exported : List (List ℕ)) (order : List ℕ) (needs : IsNeededOrder m fs synonyms.names exported graph order) (start : KnownTables) (tables : AreTablesOf m fs start) where
  abbrev is_needed : ℕ → Bool
  is_needed k = slice_index_or needs.marks k false

  abbrev at : ℕ → List ℕ
  at i = slice_index_or synonyms.names i []

  declared_at : (k : ℕ) (d : OwnSynonym) → k < length synonyms.declared.items → (slice_index_or synonyms.declared.items k d).name.now.text ≡ at k
  declared_at k d h = go synonyms.declared.items k h ∙ sym (ap (λ l. get_or l k []) are.same)
    where
      go : (l : List OwnSynonym) (k : ℕ) → k < length l → (get_or l k d).name.now.text ≡ get_or (map (λ (s : OwnSynonym). s.name.now.text) l) k []
      go [] k h = absurd (omega (arith, h))
      go (s ∷ ss) zero h = refl
      go (s ∷ ss) (suc k) h = go ss k (omega (arith, h))

  same_length : length synonyms.names ≡ length synonyms.declared.items
  same_length = ap length are.same ∙ length-map synonyms.declared.items (λ (s : OwnSynonym). s.name.now.text)

  -- a type constructor that an interface describes first is settled from the start
  from_start : (e : Entity) (d : TypeDescription) → type_meant m.header.name.text m.decls fs e ≡ Some d → (t : TypeMeaning) → d.meaning ≡ t → ((ps : List Identifier) (u : TypeTree) → ¬ (t ≡ declared_synonym ps u)) → IsSettled r start.synonyms e
  from_start e d g (algebraic k) q not = tables.types.imported e ∙ (ap imported_of g ∙ (ap imported_in q ∙ sym (resolves.synonym e d g ∙ ap (synonym_meant r) q)))
  from_start e d g (declared_synonym ps u) q not = absurd (not ps u refl)
  from_start e d g (imported_synonym s) q not = tables.types.imported e ∙ (ap imported_of g ∙ (ap imported_in q ∙ sym (resolves.synonym e d g ∙ ap (synonym_meant r) q)))

  -- no synonym is reached back
  not_back : (i j : ℕ) → i < length synonyms.names → Edge graph i j → ¬ GraphReaches graph j i
  not_back i j inside e back =
      let loop = reached m fs synonyms.names graph are.names references i i inside (prepended back) in
      let d = (are.names.all (at i)).0 (Contains-get_or synonyms.names i [] inside) in
      not_recursive m fs w d.0 d.1 d.2 d.3.0 (subst (λ x. Reaches m fs x x) (sym d.3.1) loop.1)
    where
      prepended : {k : ℕ} → Closure (Edge graph) j k → Closure (Edge graph) i k
      prepended (one f) = more (one e) f
      prepended (more c f) = more (prepended c) f

  -- the synonym that a type constructor means has a place, and an edge leads there from that on whose right side it is
  refers_to : (from : ℕ) (d : OwnSynonym) (o : Identifier) (e : Entity) → from < length synonyms.declared.items → Contains (constructors_in (slice_index_or synonyms.declared.items from d).ty.now) o → Means m fs Types o e
      → (to : ℕ) → to < length synonyms.names → e ≡ own m (at to) → Edge graph from to
  refers_to from d o e within c means to inside is =
      let from_inside : from < length synonyms.names = omega (arith, same_length, within) in
      (references.edges from to from_inside inside).1
      (refers (are.stand (slice_index_or synonyms.declared.items from d) (Contains-get_or synonyms.declared.items from d within)) (declared_at from d within) c (subst (λ x. Means m fs Types o x) is means))

  -- the place of a declared synonym
  record PlaceOf (e : Entity) : Type 0 where
    pub number : ℕ
    pub inside : number < length synonyms.names
    pub is : e ≡ own m (at number)

  place_of : (e : Entity) (x : List ℕ) → DeclaresSynonym m.decls x → e ≡ own m x → PlaceOf e
  place_of e x declared is =
      let place = (are.names.all x).1 declared in
      record { number = place.0; inside = place.1; is = is ∙ ap (own m) (sym (get_or_default synonyms.names place.0 [] x place.1 ∙ place.2)) }

  whole_expandable : IsExpandable m fs r synonyms.declared.items (filter is_needed needs.all) start.synonyms
  whole_expandable = record {
    resolver = resolves;
    well_formed = w;
    stand = are.stand;
    ready = λ i d o e inside within c means.
        let q = is_described m fs o.qualifier o.text e means.in_scope in
        ready i d o e inside within c means q.0 q.1 q.0.meaning refl;
  }
    where
      ready : (i : ℕ) (d : OwnSynonym) (o : Identifier) (e : Entity) → i < length (filter is_needed needs.all) → get_or (filter is_needed needs.all) i 0 < length synonyms.declared.items → Contains (constructors_in (get_or synonyms.declared.items (get_or (filter is_needed needs.all) i 0) d).ty.now) o → Means m fs Types o e
          → (k : TypeDescription) → type_meant m.header.name.text m.decls fs e ≡ Some k → (t : TypeMeaning) → k.meaning ≡ t
          → IsSettled r start.synonyms e ⊎ ((k : ℕ) × (Contains (take i (filter is_needed needs.all)) k × ((k < length synonyms.declared.items) × (e ≡ own m (get_or synonyms.declared.items k d).name.now.text))))
      ready i d o e inside within c means k g (algebraic n) q = inl (from_start e k g (algebraic n) q (λ ps u z. cc))
      ready i d o e inside within c means k g (imported_synonym s) q = inl (from_start e k g (imported_synonym s) q (λ ps u z. cc))
      ready i d o e inside within c means k g (declared_synonym ps u) q =
          let from = get_or (filter is_needed needs.all) i 0 in
          let it = is_declared m fs e k ps u g q in
          let to = place_of e it.name.text (it.name, ps, u, (it.stands, refl)) it.is in
          let to_inside : to.number < length synonyms.declared.items = (let z = to.inside in omega (arith, same_length, z)) in
          let from_inside : from < length synonyms.names = omega (arith, same_length, within) in
          let edge = refers_to from d o e within c means to.number to.inside to.is in
          let place = whole_place is_needed needs.all i inside in
          elim (needs.ordered.after place.at to.number place.inside (subst (λ z. GraphReaches graph z to.number) (sym place.same) (one edge))) [
            | inl before ↦ inr (to.number, (subst (λ l. Contains l to.number) (sym place.before) (in_filter is_needed (take place.at needs.all) to.number before (needs.needed.closed from to.number edge place.marked)), (to_inside, to.is ∙ ap (own m) (sym (declared_at to.number d to_inside)))))
            | inr back ↦ absurd (not_back from to.number from_inside edge (subst (λ z. GraphReaches graph to.number z) place.same back))
          ]

  pub expandable : IsExpandable m fs r synonyms.declared.items order start.synonyms
  expandable = subst (λ (l : List ℕ). IsExpandable m fs r synonyms.declared.items l start.synonyms) (sym needs.is) whole_expandable

  pub resolves_needed : (new : KnownTables) → Finishes r m.header.name.text synonyms.declared.items order start.synonyms new.synonyms → ResolvesNeeded m fs exported new.synonyms
  resolves_needed new done = record {
    resolver = r;
    resolves = resolves;
    used = λ o e c means. settled o e means (λ to inside is. needs.needed.used_marked o to c inside (subst (λ z. Means m fs Types o z) is means));
    right_sides = λ n ps t o e stands x c means. settled o e means (λ to inside is. right_side n ps t o e stands x c means to inside is);
  }
    where
      finished_at : (to : ℕ) → to < length synonyms.names → is_needed to ≡ true → IsSettled r new.synonyms (own m (at to))
      finished_at to inside marked = go synonyms.declared.items refl (omega (arith, same_length, inside))
        where
          listed : Contains order to
          listed = subst (λ l. Contains l to) (sym needs.is) (in_filter is_needed needs.all to (needs.ordered.all to (subst (λ n. to < n) (sym references.nodes) inside)) marked)

          go : (l : List OwnSynonym) → synonyms.declared.items ≡ l → to < length synonyms.declared.items → IsSettled r new.synonyms (own m (at to))
          go [] q i = absurd (let y : length synonyms.declared.items ≡ 0 = ap length q in omega (arith, y, i))
          go (s ∷ ss) q i = subst (λ x. IsSettled r new.synonyms (own m x)) (declared_at to s i) (done.finished to s listed i)

      settled : (o : Identifier) (e : Entity) → Means m fs Types o e → ((to : ℕ) → to < length synonyms.names → e ≡ own m (at to) → is_needed to ≡ true) → IsSettled r new.synonyms e
      settled o e means marked = let q = is_described m fs o.qualifier o.text e means.in_scope in by_meaning q.0 q.1 q.0.meaning refl
        where
          by_meaning : (d : TypeDescription) → type_meant m.header.name.text m.decls fs e ≡ Some d → (t : TypeMeaning) → d.meaning ≡ t → IsSettled r new.synonyms e
          by_meaning d g (algebraic k) q = done.kept e (from_start e d g (algebraic k) q (λ ps u z. cc))
          by_meaning d g (imported_synonym s) q = done.kept e (from_start e d g (imported_synonym s) q (λ ps u z. cc))
          by_meaning d g (declared_synonym ps u) q =
              let it = is_declared m fs e d ps u g q in
              let to = place_of e it.name.text (it.name, ps, u, (it.stands, refl)) it.is in
              subst (λ x. IsSettled r new.synonyms x) (sym to.is) (finished_at to.number to.inside (marked to.number to.inside to.is))

      -- a synonym on the right side of an exported one is needed as that is
      right_side : (n : Identifier) (ps : List Identifier) (t : TypeTree) (o : Identifier) (e : Entity) → Contains m.decls (synonym_declaration n ps t) → Contains exported n.text → Contains (constructors_in t) o → Means m fs Types o e
          → (to : ℕ) → to < length synonyms.names → e ≡ own m (at to) → is_needed to ≡ true
      right_side n ps t o e stands x c means to inside is =
          let from = place_of (own m n.text) n.text (n, ps, t, (stands, refl)) refl in
          let named_so : n.text ≡ at from.number = ap (λ (z : Entity). z.name) from.is in
          let edge = (references.edges from.number to from.inside inside).1 (refers stands named_so c (subst (λ z. Means m fs Types o z) is means)) in
          needs.needed.closed from.number to edge (needs.needed.exported_marked from.number from.inside (subst (λ z. Contains exported z) named_so x))
