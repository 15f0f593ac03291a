-- The synonyms of a module, and the graph of their references.
use Rattle.std.proofs.Common.{◌≡◌, ℕ, zero, suc, ◌+◌, ◌<◌, ◌≤◌, nat_lt, not, Bool, true, false, cond, List, [], ◌∷◌, ◌++◌, map, length, length-append, take, get_or, bytes_eq, Option, None, Some, ◌⊎◌, inl, inr, ⊎_elim, ◌↔◌, refl, sym, ap, ◌∙◌, subst, Contains, arith, Bor}
use Rattle.std.specs.Prelude.{slice_index_or, IfSome, IfNone}
use Rattle.std.specs.List.{position, position_or_len}
use Rattle.std.proofs.lemmas.Bool.{cases_Bool, both_ways, ltb-false, ltb-true}
use Rattle.std.proofs.lemmas.List.{take_more, take_all, map-append, get_or_append_left, get_or_default}
use Rattle.std.proofs.lemmas.List.Elements.{Contains-append_left, Contains-append_right, Contains-push, Contains-push_cases, Contains-get_or}
use Rattle.std.proofs.lemmas.Slice.Eq.{bytes_eq-Decides}
use Rattle.hm_types.specs.Interfaces.{Exports as Interface}
use Rattle.hm_types.specs.declared.Entity.{Entity}
use Rattle.hm_syntax.specs.Names.{Identifier}
use Rattle.hm_syntax.specs.Trees.{TypeTree, Declaration, synonym_declaration}
use Rattle.hm_syntax.specs.declared.ast.Module.{Module}
use Rattle.hm_graph_components.specs.Digraph.{Graph, Edge, AddsEdge}
use Rattle.hm_names.specs.declared.namespace.Namespace.TheVariants.{Types}
use Rattle.hm_scope.specs.declared.declared_synonyms.OwnSynonym.{OwnSynonym}
use Rattle.hm_scope.specs.declared.declared_synonyms.OwnSynonyms.{OwnSynonyms}
use Rattle.hm_names.specs.Texts.{same_text, is_text_among}
use Rattle.hm_names.specs.Variables.{constructors_in}
use Rattle.hm_names.specs.Entities.{own}
use Rattle.hm_names.specs.Scope.{Means, IsUnbound, IsAmbiguous}
use Rattle.hm_graph_components.specs.Digraph.{Reaches as GraphReaches}
use Rattle.hm_names.specs.declared.faults.Kind.{Kind}
use Rattle.hm_names.specs.declared.faults.Kind.TheVariants.{Recursive}
use Rattle.hm_names.specs.declared.faults.Fault.{Fault}
use Rattle.hm_names.specs.Bindings.{Adds}
use Rattle.hm_names.specs.Faults.Phases.{fault}
use Rattle.hm_names.specs.Faults.Arities.{RefersTo, refers, Reaches, SynonymFault, recursive}
use Rattle.hm_scope.proofs.References.{reached, reaches}
use Rattle.hm_scope.specs.Synonyms.{DeclaresSynonym, IsOnce, AreSynonyms, IsReferenceGraph, NamesOwn, declaration_of, AreOwnSynonyms, RefersIn, AddsReferences, IsMarked, IsMarkedFault, HasSynonymFault}
use Rattle.hm_names.proofs.Members.{none_in, cases, first}
use Rattle.hm_names.proofs.Standing.{among_decides}

-- Lists of names

pub once_more : (names : List (List ℕ)) (x : List ℕ) → IsOnce names → ¬ Contains names x → IsOnce (names ++ x ∷ [])
once_more names x once new i j a b e = elim (at i a) [
  | inl l ↦ elim (at j b) [
    | inl k ↦ once i j l k (sym (get_or_append_left names (x ∷ []) [] i l) ∙ (e ∙ get_or_append_left names (x ∷ []) [] j k))
    | inr k ↦ absurd (new (subst (λ z. Contains names z) (sym (get_or_append_left names (x ∷ []) [] i l) ∙ (e ∙ last j k)) (Contains-get_or names i [] l)))
  ]
  | inr l ↦ elim (at j b) [
    | inl k ↦ absurd (new (subst (λ z. Contains names z) (sym (get_or_append_left names (x ∷ []) [] j k) ∙ (sym e ∙ last i l)) (Contains-get_or names j [] k)))
    | inr k ↦ l ∙ sym k
  ]
]
  where
    below : (a n : ℕ) → a < n + 1 → (a < n) ⊎ (a ≡ n)
    below zero zero h = inr refl
    below zero (suc n) h = inl (omega arith)
    below (suc a) zero h = absurd (omega (arith, h))
    below (suc a) (suc n) h = elim (below a n (omega (arith, h))) [ inl l ↦ inl (omega (arith, l)) | inr e ↦ inr (ap suc e) ]

    at : (k : ℕ) → k < length (names ++ x ∷ []) → (k < length names) ⊎ (k ≡ length names)
    at k h = below k (length names) (omega (arith, h, length-append names (x ∷ [])))

    last : (k : ℕ) → k ≡ length names → get_or (names ++ x ∷ []) k [] ≡ x
    last k h = ap (λ n. get_or (names ++ x ∷ []) n []) h ∙ end names
      where
        end : (xs : List (List ℕ)) → get_or (xs ++ x ∷ []) (length xs) [] ≡ x
        end [] = refl
        end (y ∷ ys) = end ys

found_at : (x : List ℕ) (xs : List (List ℕ)) → position_or_len (same_text x) xs < length xs → get_or xs (position_or_len (same_text x) xs) [] ≡ x
found_at x [] h = absurd (omega (arith, h))
found_at x (y ∷ ys) h = elim (cases_Bool (same_text x y)) [
  | inl t ↦ ap (λ b. get_or (y ∷ ys) (cond (not b) (1 + position_or_len (same_text x) ys) 0) []) t ∙ sym ((bytes_eq-Decides x y).0 t)
  | inr f ↦
      let is : position_or_len (same_text x) (y ∷ ys) ≡ suc (position_or_len (same_text x) ys) = ap (λ b. cond (not b) (1 + position_or_len (same_text x) ys) 0) f ∙ (let k : 1 + position_or_len (same_text x) ys ≡ suc (position_or_len (same_text x) ys) = omega arith in k) in
      ap (λ n. get_or (y ∷ ys) n []) is ∙ found_at x ys (let l : position_or_len (same_text x) (y ∷ ys) < suc (length ys) = h in omega (arith, is, l))
]

not_there : (x : List ℕ) (xs : List (List ℕ)) → length xs ≤ position_or_len (same_text x) xs → ¬ Contains xs x
not_there x [] h c = absurd (none_in x c)
not_there x (y ∷ ys) h c = elim (cases_Bool (same_text x y)) [
  | inl t ↦ let is : position_or_len (same_text x) (y ∷ ys) ≡ 0 = ap (λ b. cond (not b) (1 + position_or_len (same_text x) ys) 0) t in absurd (let l : suc (length ys) ≤ position_or_len (same_text x) (y ∷ ys) = h in omega (arith, is, l))
  | inr f ↦
      let is : position_or_len (same_text x) (y ∷ ys) ≡ suc (position_or_len (same_text x) ys) = ap (λ b. cond (not b) (1 + position_or_len (same_text x) ys) 0) f ∙ (let k : 1 + position_or_len (same_text x) ys ≡ suc (position_or_len (same_text x) ys) = omega arith in k) in
      elim (cases y ys x c) [
        | inl e ↦ both_ways (same_text x y) f ((bytes_eq-Decides x y).1 e)
        | inr o ↦ not_there x ys (let l : suc (length ys) ≤ position_or_len (same_text x) (y ∷ ys) = h in omega (arith, is, l)) o
      ]
]

pub position_found : (x : List ℕ) (xs : List (List ℕ)) (j : ℕ) → Some j ≡ position (same_text x) xs → (j < length xs) × (get_or xs j [] ≡ x)
position_found x xs j h = elim (cases_Bool (nat_lt (position_or_len (same_text x) xs) (length xs))) [
  | inl t ↦
      let e : Some j ≡ Some (position_or_len (same_text x) xs) = h ∙ ap (λ b. cond b (Some (position_or_len (same_text x) xs)) None) t in
      let is : j ≡ position_or_len (same_text x) xs = cc in
      let l = ltb-true (position_or_len (same_text x) xs) (length xs) t in
      (omega (arith, is, l), ap (λ n. get_or xs n []) is ∙ found_at x xs l)
  | inr f ↦ absurd (let z : Some j ≡ None = h ∙ ap (λ b. cond b (Some (position_or_len (same_text x) xs)) None) f in cc)
]

pub position_none : (x : List ℕ) (xs : List (List ℕ)) → None ≡ position (same_text x) xs → ¬ Contains xs x
position_none x xs h = elim (cases_Bool (nat_lt (position_or_len (same_text x) xs) (length xs))) [
  | inl t ↦ absurd (let z : None ≡ Some (position_or_len (same_text x) xs) = h ∙ ap (λ b. cond b (Some (position_or_len (same_text x) xs)) None) t in cc)
  | inr f ↦ not_there x xs (ltb-false (position_or_len (same_text x) xs) (length xs) f)
]

-- The synonyms that are declared

-- the declaration is of a synonym of this name
abbrev IsNamed : Declaration → List ℕ → Type 0
IsNamed d x = (n : Identifier) × (ps : List Identifier) × (t : TypeTree) × ((d ≡ synonym_declaration n ps t) × (n.text ≡ x))

declares_more : (ds : List Declaration) (d : Declaration) (x : List ℕ) → DeclaresSynonym (ds ++ d ∷ []) x ↔ (DeclaresSynonym ds x ⊎ IsNamed d x)
declares_more ds d x = (
  λ h. elim (Contains-push_cases ds d (synonym_declaration h.0 h.1 h.2) h.3.0) [ inl b ↦ inl (h.0, h.1, h.2, (b, h.3.1)) | inr e ↦ inr (h.0, h.1, h.2, (e, h.3.1)) ],
  λ h. ⊎_elim (λ (b : DeclaresSynonym ds x). (b.0, b.1, b.2, (Contains-append_left ds (d ∷ []) (synonym_declaration b.0 b.1 b.2) b.3.0, b.3.1)))
      (λ (e : IsNamed d x). (e.0, e.1, e.2, (subst (λ z. Contains (ds ++ d ∷ []) z) e.3.0 (Contains-push ds d), e.3.1))) h,
)

pub synonym_new : (ds : List Declaration) (old new : OwnSynonyms) (s : OwnSynonym) (x : List ℕ) → x ≡ s.name.now.text → false ≡ is_text_among x old.names → new.names ≡ cond (is_text_among x old.names) old.names (old.names ++ x ∷ []) → new.declared.items ≡ old.declared.items ++ s ∷ []
    → AreOwnSynonyms ds old → AreOwnSynonyms (ds ++ declaration_of s ∷ []) new
synonym_new ds old new s x name absent put push are = record {
  names = record {
    all = λ y. (
      λ c. (declares_more ds (declaration_of s) y).1 (elim (Contains-push_cases old.names x y (subst (λ l. Contains l y) names c)) [
        | inl b ↦ inl ((are.names.all y).0 b)
        | inr e ↦ inr (s.name.now, s.params.now, s.ty.now, (refl, sym name ∙ e))
      ]),
      λ h. subst (λ l. Contains l y) (sym names) (elim ((declares_more ds (declaration_of s) y).0 h) [
        | inl b ↦ Contains-append_left old.names (x ∷ []) y ((are.names.all y).1 b)
        | inr e ↦ let same : s.name.now ≡ e.0 = (let q : synonym_declaration s.name.now s.params.now s.ty.now ≡ synonym_declaration e.0 e.1 e.2 = e.3.0 in cc) in
            subst (λ z. Contains (old.names ++ x ∷ []) z) (name ∙ (ap (λ (n : Identifier). n.text) same ∙ e.3.1)) (Contains-push old.names x)
      ]),
    );
    once = subst IsOnce (sym names) (once_more old.names x are.names.once (λ c. both_ways (is_text_among x old.names) (sym absent) ((among_decides x old.names).1 c)));
  };
  same = names ∙ (ap (λ l. l ++ x ∷ []) are.same ∙ (ap (λ z. map (λ (s : OwnSynonym). s.name.now.text) old.declared.items ++ z ∷ []) name
      ∙ (sym (map-append (λ (s : OwnSynonym). s.name.now.text) old.declared.items (s ∷ [])) ∙ ap (map (λ (s : OwnSynonym). s.name.now.text)) (sym push))));
  stand = λ o c. elim (Contains-push_cases old.declared.items s o (subst (λ l. Contains l o) push c)) [
    | inl b ↦ Contains-append_left ds (declaration_of s ∷ []) (declaration_of o) (are.stand o b)
    | inr e ↦ subst (λ z. Contains (ds ++ declaration_of s ∷ []) (declaration_of z)) e (Contains-push ds (declaration_of s))
  ];
}
  where
    names : new.names ≡ old.names ++ x ∷ []
    names = put ∙ ap (λ b. cond b old.names (old.names ++ x ∷ [])) (sym absent)

pub synonym_old : (ds : List Declaration) (old new : OwnSynonyms) (s : OwnSynonym) (x : List ℕ) → x ≡ s.name.now.text → true ≡ is_text_among x old.names → new.names ≡ cond (is_text_among x old.names) old.names (old.names ++ x ∷ []) → new.declared.items ≡ old.declared.items
    → AreOwnSynonyms ds old → AreOwnSynonyms (ds ++ declaration_of s ∷ []) new
synonym_old ds old new s x name there put same are = record {
  names = record {
    all = λ y. (
      λ c. (declares_more ds (declaration_of s) y).1 (inl ((are.names.all y).0 (subst (λ l. Contains l y) names c))),
      λ h. subst (λ l. Contains l y) (sym names) (elim ((declares_more ds (declaration_of s) y).0 h) [
        | inl b ↦ (are.names.all y).1 b
        | inr e ↦ let same : s.name.now ≡ e.0 = (let q : synonym_declaration s.name.now s.params.now s.ty.now ≡ synonym_declaration e.0 e.1 e.2 = e.3.0 in cc) in
            subst (λ z. Contains old.names z) (name ∙ (ap (λ (n : Identifier). n.text) same ∙ e.3.1)) ((among_decides x old.names).0 (sym there))
      ]),
    );
    once = subst IsOnce (sym names) are.names.once;
  };
  same = names ∙ (are.same ∙ ap (map (λ (s : OwnSynonym). s.name.now.text)) (sym same));
  stand = λ o c. Contains-append_left ds (declaration_of s ∷ []) (declaration_of o) (are.stand o (subst (λ l. Contains l o) same c));
}
  where
    names : new.names ≡ old.names
    names = put ∙ ap (λ b. cond b old.names (old.names ++ x ∷ [])) (sym there)

pub no_synonym : (ds : List Declaration) (d : Declaration) (synonyms : OwnSynonyms) → ((n : Identifier) (ps : List Identifier) (t : TypeTree) → ¬ (d ≡ synonym_declaration n ps t)) → AreOwnSynonyms ds synonyms → AreOwnSynonyms (ds ++ d ∷ []) synonyms
no_synonym ds d synonyms none are = record {
  names = record {
    all = λ y. (
      λ c. (declares_more ds d y).1 (inl ((are.names.all y).0 c)),
      λ h. elim ((declares_more ds d y).0 h) [ inl b ↦ (are.names.all y).1 b | inr e ↦ absurd (none e.0 e.1 e.2 e.3.0) ],
    );
    once = are.names.once;
  };
  same = are.same;
  stand = λ o c. Contains-append_left ds (d ∷ []) (declaration_of o) (are.stand o c);
}

pub more_of : {X : Type 0} (K : List X → Type 0) (xs : List X) (i : ℕ) (x : X) → i < length xs → x ≡ get_or xs i x → K (take i xs ++ x ∷ []) → K (take (i + 1) xs)
more_of K xs i x h e k = subst K (sym (take_more xs i x h ∙ ap (λ z. take i xs ++ z ∷ []) (sym e))) k

pub all_of : {X : Type 0} (K : List X → Type 0) (xs : List X) (i : ℕ) → length xs ≤ i → K (take i xs) → K xs
all_of K xs i h k = subst K (take_all i xs h) k

-- What a name means

pub means_one : (m : Module) (fs : List Interface) (n : Identifier) (d e : Entity) → Means m fs Types n d → Means m fs Types n e → d ≡ e
means_one m fs n d e a b = b.alone d a.in_scope

pub not_unbound : (m : Module) (fs : List Interface) (n : Identifier) (e : Entity) → IsUnbound m fs Types n → ¬ Means m fs Types n e
not_unbound m fs n e u h = u e h.in_scope

pub not_ambiguous : (m : Module) (fs : List Interface) (n : Identifier) (e : Entity) → IsAmbiguous m fs Types n → ¬ Means m fs Types n e
not_ambiguous m fs n e a h = a.1.1.2 (h.alone a.0 a.1.1.0 ∙ sym (h.alone a.1.0 a.1.1.1))

-- The edges

pub no_reference : (names : List (List ℕ)) (graph : Graph) (R : ℕ → List ℕ → Type 0) → ((i : ℕ) (y : List ℕ) → Contains names y → ¬ R i y) → AddsReferences names graph graph R
no_reference names graph R none = record {
  edges = λ i j a b. (λ e. inl e, λ h. ⊎_elim (λ e. e) (λ r. absurd (none i (get_or names j []) (Contains-get_or names j [] b) r)) h);
  within = λ i j e. inl e;
}

pub one_reference : (m : Module) (fs : List Interface) (names : List (List ℕ)) (old new : Graph) (n : Identifier) (from to : ℕ) → IsOnce names → to < length names → Means m fs Types n (own m (get_or names to [])) → AddsEdge old new from to
    → AddsReferences names old new (λ i y. (i ≡ from) × Means m fs Types n (own m y))
one_reference m fs names old new n from to once inside means adds = record {
  edges = λ i j a b. (
    λ e. ⊎_elim (λ o. inl o) (λ p. inr (p.0, subst (λ k. Means m fs Types n (own m (get_or names k []))) (sym p.1) means)) ((adds.edges i j).0 e),
    λ h. (adds.edges i j).1 (⊎_elim (λ o. inl o) (λ p. inr (p.0, once j to b inside (ap (λ (e : Entity). e.name) (means_one m fs n (own m (get_or names j [])) (own m (get_or names to [])) p.1 means)))) h),
  );
  within = λ i j e. ⊎_elim (λ o. inl o) (λ p. inr (subst (λ k. k < length names) (sym p.1) inside)) ((adds.edges i j).0 e);
}

-- one set of references after another
pub references_more : (names : List (List ℕ)) (old mid new : Graph) (R S T : ℕ → List ℕ → Type 0) → ((i : ℕ) (y : List ℕ) → T i y ↔ (R i y ⊎ S i y)) → AddsReferences names old mid R → AddsReferences names mid new S → AddsReferences names old new T
references_more names old mid new R S T same one two = record {
  edges = λ i j a b. (
    λ e. ⊎_elim (λ o. ⊎_elim (λ p. inl p) (λ r. inr ((same i (get_or names j [])).1 (inl r))) ((one.edges i j a b).0 o)) (λ s. inr ((same i (get_or names j [])).1 (inr s))) ((two.edges i j a b).0 e),
    λ h. (two.edges i j a b).1 (⊎_elim (λ o. inl ((one.edges i j a b).1 (inl o))) (λ t. ⊎_elim (λ r. inl ((one.edges i j a b).1 (inr r))) (λ s. inr s) ((same i (get_or names j [])).0 t)) h),
  );
  within = λ i j e. ⊎_elim (λ o. one.within i j o) (λ l. inr l) (two.within i j e);
}

pub same_references : (names : List (List ℕ)) (old new : Graph) (R T : ℕ → List ℕ → Type 0) → ((i : ℕ) (y : List ℕ) → i < length names → T i y ↔ R i y) → AddsReferences names old new R → AddsReferences names old new T
same_references names old new R T same one = record {
  edges = λ i j a b. (
    λ e. ⊎_elim (λ o. inl o) (λ r. inr ((same i (get_or names j []) a).1 r)) ((one.edges i j a b).0 e),
    λ h. (one.edges i j a b).1 (⊎_elim (λ o. inl o) (λ t. inr ((same i (get_or names j []) a).0 t)) h),
  );
  within = one.within;
}

-- the names that are used

pub names_more : (m : Module) (fs : List Interface) (from i : ℕ) (y : List ℕ) (before : List Identifier) (n : Identifier) → ((i ≡ from) × NamesOwn m fs (before ++ n ∷ []) y) ↔ (((i ≡ from) × NamesOwn m fs before y) ⊎ ((i ≡ from) × Means m fs Types n (own m y)))
names_more m fs from i y before n = (
  λ h. elim (Contains-push_cases before n h.1.0 h.1.1.0) [ inl b ↦ inl (h.0, (h.1.0, (b, h.1.1.1))) | inr e ↦ inr (h.0, subst (λ k. Means m fs Types k (own m y)) (sym e) h.1.1.1) ],
  λ h. ⊎_elim (λ (p : (i ≡ from) × NamesOwn m fs before y). (p.0, (p.1.0, (Contains-append_left before (n ∷ []) p.1.0 p.1.1.0, p.1.1.1)))) (λ p. (p.0, (n, (Contains-push before n, p.1)))) h,
)

pub used_more : (m : Module) (fs : List Interface) (names : List (List ℕ)) (old mid new : Graph) (from : ℕ) (used : List (Bor Identifier)) (i : ℕ) (n : Bor Identifier) → i < length used → n ≡ get_or used i n
    → AddsReferences names old mid (λ k y. (k ≡ from) × NamesOwn m fs (map (λ n. n.now) (take i used)) y) → AddsReferences names mid new (λ k y. (k ≡ from) × Means m fs Types n.now (own m y))
    → AddsReferences names old new (λ k y. (k ≡ from) × NamesOwn m fs (map (λ n. n.now) (take (i + 1) used)) y)
used_more m fs names old mid new from used i n h e one two =
    let all : map (λ (n : Bor Identifier). n.now) (take (i + 1) used) ≡ map (λ (n : Bor Identifier). n.now) (take i used) ++ n.now ∷ [] =
    ap (map (λ (n : Bor Identifier). n.now)) (take_more used i n h ∙ ap (λ z. take i used ++ z ∷ []) (sym e)) ∙ map-append (λ (n : Bor Identifier). n.now) (take i used) (n ∷ []) in
    subst (λ (l : List Identifier). AddsReferences names old new (λ k y. (k ≡ from) × NamesOwn m fs l y)) (sym all)
    (references_more names old mid new _ _ (λ k y. (k ≡ from) × NamesOwn m fs (map (λ n. n.now) (take i used) ++ n.now ∷ []) y) (λ k y. names_more m fs from k y (map (λ n. n.now) (take i used)) n.now) one two)

-- the declarations

pub refers_more : (m : Module) (fs : List Interface) (ds : List Declaration) (d : Declaration) (x y : List ℕ) → RefersIn m fs (ds ++ d ∷ []) x y ↔ (RefersIn m fs ds x y ⊎ RefersIn m fs (d ∷ []) x y)
refers_more m fs ds d x y = (
  λ h. elim (Contains-push_cases ds d (synonym_declaration h.name h.parameters h.type) h.stands) [
    | inl b ↦ inl (record { name = h.name; parameters = h.parameters; type = h.type; stands = b; is = h.is; names_own = h.names_own })
    | inr e ↦ inr (record { name = h.name; parameters = h.parameters; type = h.type; stands = subst (λ z. Contains (d ∷ []) z) e (first d []); is = h.is; names_own = h.names_own })
  ],
  λ h. ⊎_elim
      (λ (b : RefersIn m fs ds x y). record { name = b.name; parameters = b.parameters; type = b.type; stands = Contains-append_left ds (d ∷ []) (synonym_declaration b.name b.parameters b.type) b.stands; is = b.is; names_own = b.names_own })
      (λ (b : RefersIn m fs (d ∷ []) x y). record { name = b.name; parameters = b.parameters; type = b.type; stands = Contains-append_right ds (d ∷ []) (synonym_declaration b.name b.parameters b.type) b.stands; is = b.is; names_own = b.names_own }) h,
)

pub declarations_more : (m : Module) (fs : List Interface) (names : List (List ℕ)) (old mid new : Graph) (ds : List Declaration) (i : ℕ) (d : Declaration) → i < length ds → d ≡ get_or ds i d
    → AddsReferences names old mid (λ k y. RefersIn m fs (take i ds) (slice_index_or names k []) y) → AddsReferences names mid new (λ k y. RefersIn m fs (d ∷ []) (slice_index_or names k []) y)
    → AddsReferences names old new (λ k y. RefersIn m fs (take (i + 1) ds) (slice_index_or names k []) y)
declarations_more m fs names old mid new ds i d h e one two =
    more_of (λ (l : List Declaration). AddsReferences names old new (λ k y. RefersIn m fs l (slice_index_or names k []) y)) ds i d h e
    (references_more names old mid new _ _ (λ k y. RefersIn m fs (take i ds ++ d ∷ []) (slice_index_or names k []) y) (λ k y. refers_more m fs (take i ds) d (slice_index_or names k []) y) one two)

pub this_declaration : (m : Module) (fs : List Interface) (names : List (List ℕ)) (old new : Graph) (n : Identifier) (ps : List Identifier) (t : TypeTree) (from : ℕ) → IsOnce names → from < length names → get_or names from [] ≡ n.text
    → AddsReferences names old new (λ i y. (i ≡ from) × NamesOwn m fs (constructors_in t) y) → AddsReferences names old new (λ k y. RefersIn m fs (synonym_declaration n ps t ∷ []) (slice_index_or names k []) y)
this_declaration m fs names old new n ps t from once inside is adds = same_references names old new _ _ (λ i y a. (
  λ r. elim (cases (synonym_declaration n ps t) [] (synonym_declaration r.name r.parameters r.type) r.stands) [
    | inl e ↦
        let same : r.name ≡ n = cc in
        let types : r.type ≡ t = cc in
        (once i from a inside (sym r.is ∙ (ap (λ (k : Identifier). k.text) same ∙ sym is)), subst (λ u. NamesOwn m fs (constructors_in u) y) types r.names_own)
    | inr o ↦ absurd (none_in (synonym_declaration r.name r.parameters r.type) o)
  ],
  λ p. record { name = n; parameters = ps; type = t; stands = first (synonym_declaration n ps t) []; is = sym is ∙ ap (λ k. get_or names k []) (sym p.0); names_own = p.1 },
)) adds

pub absent_declaration : (m : Module) (fs : List Interface) (names : List (List ℕ)) (graph : Graph) (n : Identifier) (ps : List Identifier) (t : TypeTree) → ¬ Contains names n.text → AddsReferences names graph graph (λ k y. RefersIn m fs (synonym_declaration n ps t ∷ []) (slice_index_or names k []) y)
absent_declaration m fs names graph n ps t none = record {
  edges = λ i j a b. (
    λ e. inl e,
    λ h. ⊎_elim (λ e. e) (λ (r : RefersIn m fs (synonym_declaration n ps t ∷ []) (slice_index_or names i []) (slice_index_or names j [])).
        elim (cases (synonym_declaration n ps t) [] (synonym_declaration r.name r.parameters r.type) r.stands) [
          | inl e ↦ let same : r.name ≡ n = cc in absurd (none (subst (λ z. Contains names z) (sym r.is ∙ ap (λ (k : Identifier). k.text) same) (Contains-get_or names i [] a)))
          | inr o ↦ absurd (none_in (synonym_declaration r.name r.parameters r.type) o)
        ]) h,
  );
  within = λ i j e. inl e;
}

pub no_declarations : (m : Module) (fs : List Interface) (names : List (List ℕ)) (graph : Graph) → AddsReferences names graph graph (λ k y. RefersIn m fs [] (slice_index_or names k []) y)
no_declarations m fs names graph = no_reference names graph (λ k y. RefersIn m fs [] (slice_index_or names k []) y) (λ i y c r. none_in (synonym_declaration r.name r.parameters r.type) r.stands)

pub graph_of_references : (m : Module) (fs : List Interface) (names : List (List ℕ)) (start graph : Graph) → length graph ≡ length names → ((x y : ℕ) → ¬ Edge start x y) → AddsReferences names start graph (λ k y. RefersIn m fs m.decls (slice_index_or names k []) y) → IsReferenceGraph m fs names graph
graph_of_references m fs names start graph same none adds = record {
  nodes = same;
  edges = λ i j a b. (
    λ e. ⊎_elim (λ o. absurd (none i j o)) (λ (r : RefersIn m fs m.decls (slice_index_or names i []) (slice_index_or names j [])). refers r.stands r.is r.names_own.1.0 r.names_own.1.1) ((adds.edges i j a b).0 e),
    λ r. (adds.edges i j a b).1 (inr (told (slice_index_or names i []) (slice_index_or names j []) r)),
  );
  within = λ i j e. ⊎_elim (λ o. absurd (none i j o)) (λ l. l) (adds.within i j e);
}
  where
    told : (x y : List ℕ) → RefersTo m fs x y → RefersIn m fs m.decls x y
    told x y (refers {n} {k} {ps} {t} has is c e) = record { name = n; parameters = ps; type = t; stands = has; is = is; names_own = (k, (c, e)) }

-- Answers

pub some_place : (o : Option ℕ) (x : List ℕ) (names : List (List ℕ)) (P : ℕ → Type 0) → o ≡ position (same_text x) names → ((j : ℕ) → j < length names → get_or names j [] ≡ x → P j) → IfSome o P
some_place None x names P h f = tt
some_place (Some j) x names P h f = let r = position_found x names j h in f j r.0 r.1

pub none_place : (o : Option ℕ) (x : List ℕ) (names : List (List ℕ)) (P : Type 0) → o ≡ position (same_text x) names → (¬ Contains names x → P) → IfNone o P
none_place None x names P h f = f (position_none x names h)
none_place (Some j) x names P h f = tt

pub is_own : (m : Module) (fs : List Interface) (n : Identifier) (e : Entity) (home x y : List ℕ) → Means m fs Types n e → home ≡ m.header.name.text → e.«module» ≡ home → x ≡ e.name → y ≡ x → Means m fs Types n (own m y)
is_own m fs n e home x y means h b t q = subst (λ z. Means m fs Types n z) (let p : e ≡ own m y = (λ i. record { «module» = (b ∙ h) i; name = sym (q ∙ t) i }) in p) means

pub names_differ : (m : Module) (fs : List Interface) (n : Identifier) (e : Entity) (names : List (List ℕ)) (x y : List ℕ) → Means m fs Types n e → x ≡ e.name → ¬ Contains names x → Contains names y → ¬ Means m fs Types n (own m y)
names_differ m fs n e names x y means t none has other = none (subst (λ z. Contains names z) (ap (λ (z : Entity). z.name) (means_one m fs n (own m y) e other means) ∙ sym t) has)

pub modules_differ : (m : Module) (fs : List Interface) (n : Identifier) (e : Entity) (home b y : List ℕ) → Means m fs Types n e → home ≡ m.header.name.text → b ≡ e.«module» → bytes_eq b home ≡ false → ¬ Means m fs Types n (own m y)
modules_differ m fs n e home b y means h t f other = both_ways (bytes_eq b home) f ((bytes_eq-Decides b home).1 (t ∙ (ap (λ (z : Entity). z.«module») (means_one m fs n e (own m y) means other) ∙ sym h)))

pub when_not : (b r : Bool) → r ≡ not b → r ≡ true → false ≡ b
when_not true r h e = absurd (let z : true ≡ false = sym e ∙ h in cc)
when_not false r h e = refl

pub when_so : (b r : Bool) → r ≡ not b → r ≡ false → true ≡ b
when_so true r h e = refl
when_so false r h e = absurd (let z : false ≡ true = sym e ∙ h in cc)

-- Marked synonyms

pub marked_at : (names : List (List ℕ)) (marks : List Bool) (x : List ℕ) (j : ℕ) (b : Bool) → IsOnce names → length marks ≡ length names → j < length names → get_or names j [] ≡ x → b ≡ get_or marks j false → (b ≡ true) ↔ IsMarked names marks x
marked_at names marks x j b once same inside is mark = (
  λ e. record { place = j; inside = inside; is_name = is; marked = sym mark ∙ e },
  λ m. mark ∙ (ap (λ k. get_or marks k false) (once j m.place inside m.inside (is ∙ sym m.is_name)) ∙ m.marked),
)

pub not_marked : (names : List (List ℕ)) (marks : List Bool) (x : List ℕ) → ¬ Contains names x → ¬ IsMarked names marks x
not_marked names marks x none m = none (subst (λ z. Contains names z) m.is_name (Contains-get_or names m.place [] m.inside))

pub fault_added : (names : List (List ℕ)) (marks : List Bool) (old new : List Fault) (n : Identifier) (ps : List Identifier) (t : TypeTree) (f : Fault) → IsMarked names marks n.text → f ≡ fault Recursive n → new ≡ old ++ f ∷ []
    → Adds old new (IsMarkedFault names marks (synonym_declaration n ps t ∷ []))
fault_added names marks old new n ps t f mark is push g = (
  λ c. elim (Contains-push_cases old f g (subst (λ l. Contains l g) push c)) [
    | inl b ↦ inl b
    | inr e ↦ inr (record { name = n; parameters = ps; type = t; stands = first (synonym_declaration n ps t) []; marked = mark; is = sym e ∙ is })
  ],
  λ h. subst (λ l. Contains l g) (sym push) (⊎_elim (λ b. Contains-append_left old (f ∷ []) g b) (λ (m : IsMarkedFault names marks (synonym_declaration n ps t ∷ []) g).
      elim (cases (synonym_declaration n ps t) [] (synonym_declaration m.name m.parameters m.type) m.stands) [
        | inl e ↦ let same : m.name ≡ n = cc in subst (λ z. Contains (old ++ f ∷ []) z) (sym (m.is ∙ (ap (fault Recursive) same ∙ sym is))) (Contains-push old f)
        | inr o ↦ absurd (none_in (synonym_declaration m.name m.parameters m.type) o)
      ]) h),
)

pub no_fault_added : (names : List (List ℕ)) (marks : List Bool) (old : List Fault) (d : Declaration) → ((n : Identifier) (ps : List Identifier) (t : TypeTree) → ¬ (d ≡ synonym_declaration n ps t)) → Adds old old (IsMarkedFault names marks (d ∷ []))
no_fault_added names marks old d none g = (
  λ c. inl c,
  λ h. ⊎_elim (λ b. b) (λ (m : IsMarkedFault names marks (d ∷ []) g).
      elim (cases d [] (synonym_declaration m.name m.parameters m.type) m.stands) [ inl e ↦ absurd (none m.name m.parameters m.type (sym e)) | inr o ↦ absurd (none_in (synonym_declaration m.name m.parameters m.type) o) ]) h,
)

pub faults_more : (names : List (List ℕ)) (marks : List Bool) (old mid new : List Fault) (ds : List Declaration) (i : ℕ) (d : Declaration) → i < length ds → d ≡ get_or ds i d
    → Adds old mid (IsMarkedFault names marks (take i ds)) → Adds mid new (IsMarkedFault names marks (d ∷ [])) → Adds old new (IsMarkedFault names marks (take (i + 1) ds))
faults_more names marks old mid new ds i d h e one two = more_of (λ (l : List Declaration). Adds old new (IsMarkedFault names marks l)) ds i d h e (λ g. (
  λ c. ⊎_elim (λ b. ⊎_elim (λ o. inl o) (λ (m : IsMarkedFault names marks (take i ds) g). inr (record { name = m.name; parameters = m.parameters; type = m.type; stands = Contains-append_left (take i ds) (d ∷ []) _ m.stands; marked = m.marked; is = m.is })) ((one g).0 b))
      (λ (m : IsMarkedFault names marks (d ∷ []) g). inr (record { name = m.name; parameters = m.parameters; type = m.type; stands = Contains-append_right (take i ds) (d ∷ []) _ m.stands; marked = m.marked; is = m.is })) ((two g).0 c),
  λ h. ⊎_elim (λ o. (two g).1 (inl ((one g).1 (inl o)))) (λ (m : IsMarkedFault names marks (take i ds ++ d ∷ []) g).
      elim (Contains-push_cases (take i ds) d (synonym_declaration m.name m.parameters m.type) m.stands) [
        | inl b ↦ (two g).1 (inl ((one g).1 (inr (record { name = m.name; parameters = m.parameters; type = m.type; stands = b; marked = m.marked; is = m.is }))))
        | inr q ↦ (two g).1 (inr (record { name = m.name; parameters = m.parameters; type = m.type; stands = subst (λ z. Contains (d ∷ []) z) q (first d []); marked = m.marked; is = m.is }))
      ]) h,
))

pub all_recursive : (m : Module) (fs : List Interface) (names : List (List ℕ)) (graph : Graph) (marks : List Bool) (found : List Fault) → AreSynonyms m.decls names → IsReferenceGraph m fs names graph
    → ((x : ℕ) → x < length graph → (get_or marks x false ≡ true) ↔ GraphReaches graph x x) → Adds [] found (IsMarkedFault names marks m.decls) → (f : Fault) → Contains found f ↔ HasSynonymFault m fs f
all_recursive m fs names graph marks found synonyms g marked adds f = (
  λ c. ⊎_elim (λ o. absurd (none_in f o)) (λ (h : IsMarkedFault names marks m.decls f).
      let r = reached m fs names graph synonyms g h.marked.place h.marked.place h.marked.inside ((marked h.marked.place (subst (λ n. h.marked.place < n) (sym g.nodes) h.marked.inside)).0 h.marked.marked) in
      record { kind = Recursive; name = h.name; stands = recursive h.stands (subst (λ x. Reaches m fs x x) h.marked.is_name r.1); is = h.is }) ((adds f).0 c),
  λ h. (adds f).1 (inr (marks_of h.kind h.name h.stands h.is)),
)
  where
    marks_of : (k : Kind) (n : Identifier) → SynonymFault m fs k n → f ≡ fault k n → IsMarkedFault names marks m.decls f
    marks_of k n (recursive {ps = ps} {t = t} has r) is =
        let at = (synonyms.all n.text).1 (n, ps, t, (has, refl)) in
        let is_name : get_or names at.0 [] ≡ n.text = get_or_default names at.0 [] n.text at.1 ∙ at.2 in
        let c = reaches m fs names graph synonyms g n.text n.text r at.0 at.0 at.1 at.1 is_name is_name in
        record { name = n; parameters = ps; type = t; stands = has; marked = record { place = at.0; inside = at.1; is_name = is_name; marked = (marked at.0 (subst (λ l. at.0 < l) (sym g.nodes) at.1)).1 c }; is = is }

pub none_marked : (names : List (List ℕ)) (marks : List Bool) (x : List ℕ) → ¬ Contains names x → (false ≡ true) ↔ IsMarked names marks x
none_marked names marks x none = (λ e. cc, λ m. absurd (not_marked names marks x none m))
