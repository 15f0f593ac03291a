-- The marks of needed synonyms.
use Rattle.std.proofs.Common.{◌≡◌, ℕ, zero, suc, ◌+◌, ◌<◌, Bool, true, false, cond, List, [], ◌∷◌, ◌++◌, map, length, take, get_or, Bor, ◌⊎◌, inl, inr, ⊎_elim, ◌↔◌, refl, sym, ap, ◌∙◌, subst, Contains, arith}
use Rattle.std.proofs.lemmas.List.{take_more, length-map, map-append}
use Rattle.std.proofs.lemmas.List.Elements.{Contains-push_cases, Contains-push, Contains-append_left, Contains-append_right, Contains-get_or}
use Rattle.hm_types.specs.declared.Entity.{Entity}
use Rattle.hm_types.specs.Interfaces.{Exports as Interface}
use Rattle.hm_syntax.specs.Names.{Identifier}
use Rattle.hm_syntax.specs.declared.ast.Module.{Module}
use Rattle.hm_graph_components.specs.Closure.{one, more}
use Rattle.hm_graph_components.specs.Digraph.{Graph, Edge, Reaches}
use Rattle.hm_graph_components.specs.Marks.{Spreads}
use Rattle.hm_names.specs.Bindings.{Pair}
use Rattle.hm_names.specs.Entities.{own, named}
use Rattle.hm_names.specs.Scope.{Means}
use Rattle.hm_names.specs.Texts.{is_text_among}
use Rattle.hm_names.specs.declared.namespace.Namespace.TheVariants.{Types}
use Rattle.hm_names.proofs.Members.{none_in, cases, first}
use Rattle.hm_names.proofs.Standing.{among_decides}
use Rattle.hm_scope.specs.declared.declared_synonyms.OwnSynonym.{OwnSynonym}
use Rattle.hm_scope.specs.declared.declared_synonyms.OwnSynonyms.{OwnSynonyms}
use Rattle.hm_scope.specs.NeededSynonyms.{Exports, AddsMarks, MarksNames, AreNeeded}
use Rattle.hm_scope.specs.Synonyms.{IsOnce, AreOwnSynonyms}
use Rattle.hm_scope.specs.UsedTypes.{all_types_outside}
use Rattle.hm_scope.proofs.SynonymReferences.{more_of, means_one}

-- exported types

exports_append : (home : List ℕ) (ps : List Pair) (p : Pair) (x : List ℕ) → (Exports home ps x ⊎ Exports home (p ∷ []) x) ↔ Exports home (ps ++ p ∷ []) x
exports_append home ps p x = (
  λ h. ⊎_elim (λ (a : Exports home ps x). (a.0, (Contains-append_left ps (p ∷ []) a.0 a.1.0, a.1.1))) (λ (a : Exports home (p ∷ []) x). (a.0, (Contains-append_right ps (p ∷ []) a.0 a.1.0, a.1.1))) h,
  λ h. elim (Contains-push_cases ps p h.0 h.1.0) [
    | inl b ↦ inl (h.0, (b, h.1.1))
    | inr e ↦ inr (h.0, (subst (λ z. Contains (p ∷ []) z) e (first p []), h.1.1))
  ],
)

pub exports_more : (home : List ℕ) (ps : List Pair) (i : ℕ) (p : Pair) (old new : List (List ℕ)) → i < length ps → p ≡ get_or ps i p → ((x : List ℕ) → Contains old x ↔ Exports home (take i ps) x) → ((x : List ℕ) → Contains new x ↔ (Contains old x ⊎ Exports home (p ∷ []) x))
    → (x : List ℕ) → Contains new x ↔ Exports home (take (i + 1) ps) x
exports_more home ps i p old new inside is before adds = more_of (λ (l : List Pair). (x : List ℕ) → Contains new x ↔ Exports home l x) ps i p inside is (λ x. (
  λ c. (exports_append home (take i ps) p x).0 (⊎_elim (λ o. inl ((before x).0 o)) (λ e. inr e) ((adds x).0 c)),
  λ h. (adds x).1 (⊎_elim (λ o. inl ((before x).1 o)) (λ e. inr e) ((exports_append home (take i ps) p x).1 h)),
))

pub adds_one : (home : List ℕ) (p : Pair) (e : List ℕ) (old new : List (List ℕ)) → p.space ≡ Types → p.entity ≡ named home e → new ≡ cond (is_text_among e old) old (old ++ e ∷ []) → (x : List ℕ) → Contains new x ↔ (Contains old x ⊎ Exports home (p ∷ []) x)
adds_one home p e old new space is added x = go (is_text_among e old) refl
  where
    here : Exports home (p ∷ []) e
    here = (p, (first p [], (space, is)))

    only : Exports home (p ∷ []) x → x ≡ e
    only h = elim (cases p [] h.0 h.1.0) [ inl q ↦ ap (λ (z : Entity). z.name) (sym (subst (λ (z : Pair). z.entity ≡ named home x) q h.1.1.1) ∙ is) | inr o ↦ absurd (none_in h.0 o) ]

    go : (b : Bool) → is_text_among e old ≡ b → Contains new x ↔ (Contains old x ⊎ Exports home (p ∷ []) x)
    go true q =
        let same : new ≡ old = added ∙ ap (λ b. cond b old (old ++ e ∷ [])) q in (
          λ c. inl (subst (λ l. Contains l x) same c),
          λ h. subst (λ l. Contains l x) (sym same) (⊎_elim (λ c. c) (λ h. subst (λ z. Contains old z) (sym (only h)) ((among_decides e old).0 q)) h),
        )
    go false q =
        let same : new ≡ old ++ e ∷ [] = added ∙ ap (λ b. cond b old (old ++ e ∷ [])) q in (
          λ c. elim (Contains-push_cases old e x (subst (λ l. Contains l x) same c)) [ inl o ↦ inl o | inr s ↦ inr (subst (λ z. Exports home (p ∷ []) z) s here) ],
          λ h. subst (λ l. Contains l x) (sym same) (⊎_elim (λ c. Contains-append_left old (e ∷ []) x c) (λ h. subst (λ z. Contains (old ++ e ∷ []) z) (sym (only h)) (Contains-push old e)) h),
        )

-- marks of names

pub both_marks : (old mid new : List Bool) → AddsMarks old mid → AddsMarks mid new → AddsMarks old new
both_marks old mid new a b = record { nodes = b.nodes ∙ a.nodes; stays = λ k h. b.stays k (a.stays k h) }

-- no synonym has the name
pub marks_other : (m : Module) (fs : List Interface) (names : List (List ℕ)) (marks : List Bool) (n : Identifier) → ((x : List ℕ) → Contains names x → ¬ (Means m fs Types n (own m x))) → MarksNames m fs names marks (n ∷ [])
marks_other m fs names marks n none o j c inside means = elim (cases n [] o c) [
  | inl e ↦ absurd (none (get_or names j []) (Contains-get_or names j [] inside) (subst (λ z. Means m fs Types z (own m (get_or names j []))) e means))
  | inr r ↦ absurd (none_in o r)
]

pub marks_it : (m : Module) (fs : List Interface) (names : List (List ℕ)) (marks : List Bool) (n : Identifier) (at : ℕ) → IsOnce names → at < length names → get_or marks at false ≡ true → Means m fs Types n (own m (get_or names at [])) → MarksNames m fs names marks (n ∷ [])
marks_it m fs names marks n at once inside marked means o j c within other = elim (cases n [] o c) [
  | inl e ↦
      let same : own m (get_or names at []) ≡ own m (get_or names j []) = means_one m fs n (own m (get_or names at [])) (own m (get_or names j [])) means (subst (λ z. Means m fs Types z (own m (get_or names j []))) e other) in
      subst (λ z. get_or marks z false ≡ true) (once at j inside within (ap (λ (z : Entity). z.name) same)) marked
  | inr r ↦ absurd (none_in o r)
]

pub marks_more : (m : Module) (fs : List Interface) (names : List (List ℕ)) (old new : List Bool) (used : List (Bor Identifier)) (i : ℕ) (n : Bor Identifier) → i < length used → n ≡ get_or used i n → AddsMarks old new
    → MarksNames m fs names old (map (λ n. n.now) (take i used)) → MarksNames m fs names new (n.now ∷ []) → MarksNames m fs names new (map (λ n. n.now) (take (i + 1) used))
marks_more m fs names old new used i n inside is adds before here =
    let all : map (λ (n : Bor Identifier). n.now) (take (i + 1) used) ≡ map (λ (n : Bor Identifier). n.now) (take i used) ++ n.now ∷ [] =
    ap (map (λ (n : Bor Identifier). n.now)) (take_more used i n inside ∙ ap (λ z. take i used ++ z ∷ []) (sym is)) ∙ map-append (λ (n : Bor Identifier). n.now) (take i used) (n ∷ []) in
    subst (λ (l : List Identifier). MarksNames m fs names new l) (sym all) (λ o j c within means. elim (Contains-push_cases (map (λ (n : Bor Identifier). n.now) (take i used)) n.now o c) [
      | inl b ↦ adds.stays j (before o j b within means)
      | inr e ↦ here o j (subst (λ z. Contains (n.now ∷ []) z) e (first n.now [])) within means
    ])

-- all of them

pub needed : (m : Module) (fs : List Interface) (own_ones : OwnSynonyms) (exported : List (List ℕ)) (graph : Graph) (start used final : List Bool) → AreOwnSynonyms m.decls own_ones
    → start ≡ map (λ s. is_text_among s.name.now.text exported) own_ones.declared.items → AddsMarks start used → MarksNames m fs own_ones.names used (all_types_outside m.decls) → Spreads graph used final → AreNeeded m fs own_ones.names exported graph final
needed m fs own_ones exported graph start used final are starts adds marks spreads = record {
  exported_marked = λ j inside c. (spreads.marks j).1 (inl (adds.stays j (ap (λ l. get_or l j false) starts ∙ at_start own_ones.declared.items j (same_length inside) (subst (λ l. Contains exported (get_or l j [])) are.same c))));
  used_marked = λ o j c inside means. (spreads.marks j).1 (inl (marks o j c inside means));
  closed = λ i j e marked. (spreads.marks j).1 (inr (onward i j e ((spreads.marks i).0 marked)));
}
  where
    same_length : {j : ℕ} → j < length own_ones.names → j < length own_ones.declared.items
    same_length {j = j} inside = let l : length own_ones.names ≡ length own_ones.declared.items = ap length are.same ∙ length-map own_ones.declared.items (λ (s : OwnSynonym). s.name.now.text) in omega (arith, l, inside)

    at_start : (l : List OwnSynonym) (j : ℕ) → j < length l → Contains exported (get_or (map (λ (s : OwnSynonym). s.name.now.text) l) j []) → get_or (map (λ (s : OwnSynonym). is_text_among s.name.now.text exported) l) j false ≡ true
    at_start [] j h c = absurd (omega (arith, h))
    at_start (s ∷ ss) zero h c = (among_decides s.name.now.text exported).1 c
    at_start (s ∷ ss) (suc j) h c = at_start ss j (omega (arith, h)) c

    onward : (i j : ℕ) → Edge graph i j → (get_or used i false ≡ true) ⊎ ((k : ℕ) × ((get_or used k false ≡ true) × Reaches graph k i)) → (k : ℕ) × ((get_or used k false ≡ true) × Reaches graph k j)
    onward i j e (inl was) = (i, (was, one e))
    onward i j e (inr from) = (from.0, (from.1.0, more from.1.1 e))
