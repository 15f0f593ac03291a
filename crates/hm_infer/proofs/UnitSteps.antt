-- One more unit is judged.
use Rattle.std.proofs.Common.{◌≡◌, ℕ, zero, suc, ◌<◌, List, [], ◌∷◌, drop, length, get_or, Bool, true, false, Option, Some, None, inl, inr, ⊎_elim, refl, sym, ap, ◌∙◌, subst}
use Rattle.std.specs.List.{slice_get}
use Rattle.std.specs.Bool.{Decides}
use Rattle.std.proofs.lemmas.Option.{get_or_from_slice_get, slice_get_within, slice_get-get_or}
use Rattle.hm_graph_components.specs.Closure.{Closure, one, more}
use Rattle.hm_typing.specs.Names.{Identifier, local, IsOneOf}
use Rattle.hm_typing.specs.Units.{BindingMentions, IsUnsigned, RefersTo, directly, SameUnit}
use Rattle.hm_typing.specs.Orders.{IsNext, Layout}
use Rattle.hm_typing.proofs.FaultLists.{same_own}
use Rattle.hm_typing.proofs.Judge.{opposite}
use Rattle.hm_syntax.specs.Trees.{Declaration, data_declaration, newtype_declaration, synonym_declaration, signature, clause, pattern_binding, Declarations}
use Rattle.hm_syntax.specs.Lists.{declarations}
use Rattle.hm_names.specs.Syntax.{Known}
use Rattle.hm_infer_dependencies.specs.Groups.{node_name, node_names}
use Rattle.hm_infer_dependencies.specs.GroupMembers.{AreMembersOf}
use Rattle.hm_infer_dependencies.specs.Nodes.{DeclarationEdge, ListEdge, Star, list_nodes, owner}
use Rattle.hm_infer_dependencies.specs.References.{DeclarationRefers}
use Rattle.hm_names_keys.specs.Variables.{Variable}
use Rattle.hm_infer_dependencies.specs.Walks.{IsNodeWith}
use Rattle.hm_infer_dependencies.specs.declared.members.Member.{Member}
use Rattle.hm_infer_dependencies.proofs.Named.{names_unsigned, place_of}
use Rattle.hm_infer_dependencies.proofs.Reached.{names_long}
use Rattle.hm_infer_dependencies.proofs.Related.{edge_back, edge_sound}
use Rattle.hm_infer_expressions.specs.BoundNames.{names_at}
use Rattle.hm_infer_expressions.specs.Dependences.{IsMarked, IsTyped, TellsMembers}
use Rattle.hm_infer.specs.JudgedUnits.{IsBlocked, IsFreeToJudge}
use Rattle.hm_infer_expressions.specs.Stages.{IsListFound, list_of}
use Rattle.hm_infer_expressions.proofs.GroupAnswers.{in_names}
use Rattle.hm_infer_expressions.proofs.Naming.{node_variable}
use Rattle.hm_infer_results.proofs.FaultyGroups.{is_in}

-- Edges, by the places of declarations

none_some : {X Y : Type 0} {a : X} → None ≡ Some a → Y
none_some h = cc

some_one : {X : Type 0} {a b : X} → Some a ≡ Some b → a ≡ b
some_one h = cc

record EdgeAt (all : Declarations) (V : List (Option Variable)) (decls : List Declaration) (i j : ℕ) : Type 0 where
  place : ℕ
  declaration : Declaration
  own : ℕ
  at : slice_get decls place ≡ Some declaration
  owned : owner all (declarations (drop place decls)) ≡ Some own
  edge : DeclarationEdge V declaration own i j

edge_at : (all : Declarations) (V : List (Option Variable)) (decls : List Declaration) (i j : ℕ) → ListEdge all V (declarations decls) i j → EdgeAt all V decls i j
edge_at all V [] i j e = absurd e
edge_at all V (d ∷ ds) i j (inl h) = record { place = zero; declaration = d; own = h.0; at = refl; owned = h.1; edge = h.2 }
edge_at all V (d ∷ ds) i j (inr h) = let r = edge_at all V ds i j h in record { place = suc r.place; declaration = r.declaration; own = r.own; at = r.at; owned = r.owned; edge = r.edge }

edge_from : (all : Declarations) (V : List (Option Variable)) (decls : List Declaration) (i j p : ℕ) (d : Declaration) (own : ℕ) → slice_get decls p ≡ Some d → owner all (declarations (drop p decls)) ≡ Some own → DeclarationEdge V d own i j → ListEdge all V (declarations decls) i j
edge_from all V [] i j p d own e o h = none_some e
edge_from all V (b ∷ ds) i j zero d own e o h = inl (own, o, subst (λ z. DeclarationEdge V z own i j) (sym (some_one e)) h)
edge_from all V (b ∷ ds) i j (suc p) d own e o h = inr (edge_from all V ds i j p d own e o h)

star_back : (V : List (Option Variable)) (d : Declaration) (own i j : ℕ) → Star V d own i j → Star V d own j i
star_back V (data_declaration n ps cs) own i j s = s
star_back V (newtype_declaration n ps c) own i j s = s
star_back V (synonym_declaration n ps t) own i j s = s
star_back V (signature ns t) own i j s = s
star_back V (clause n ps r) own i j s = s
star_back V (pattern_binding l c p r) own i j (inl s) = inr s
star_back V (pattern_binding l c p r) own i j (inr s) = inl s

pub named_in : (k : Known) (all : Declarations) (group : List ℕ) (x : Identifier) → IsOneOf x (names_at k all group) → (j : ℕ) × (IsOneOf j group × (node_name k all j ≡ x))
named_in k all [] x o = absurd o
named_in k all (j ∷ group) x (inl e) = (j, (inl refl, sym e))
named_in k all (j ∷ group) x (inr o) = let h = named_in k all group x o in (h.0, (inr h.1.0, h.1.1))

module _ (k : Known) (decls : List Declaration) (nodes : List (Option Variable)) (rows : List (List ℕ)) (found : IsListFound k decls nodes rows) (L : Layout (list_of k decls)) where
  abbrev D : Declarations
  D = declarations decls

  abbrev V : List (Option Variable)
  V = list_nodes (declarations decls) (declarations decls)

  long : length nodes ≡ length (node_names k (declarations decls) (declarations decls))
  long = ap length found.nodes_are ∙ names_long k (declarations decls) (declarations decls)

  pub at_number : (i : ℕ) → i < length nodes → slice_get (node_names k (declarations decls) (declarations decls)) i ≡ Some (node_name k (declarations decls) i)
  at_number i l = slice_get-get_or (node_names k (declarations decls) (declarations decls)) i (local []) (subst (λ m. i < m) long l)

  number_within : (i : ℕ) (x : Identifier) → slice_get (node_names k (declarations decls) (declarations decls)) i ≡ Some x → i < length nodes
  number_within i x e = subst (λ m. i < m) (sym long) (slice_get_within (node_names k (declarations decls) (declarations decls)) i x e)

  named : (i : ℕ) (x : Identifier) → slice_get (node_names k (declarations decls) (declarations decls)) i ≡ Some x → node_name k (declarations decls) i ≡ x
  named i x e = get_or_from_slice_get (node_names k (declarations decls) (declarations decls)) i x (local []) e

  once : (x : Variable) (i j : ℕ) → slice_get (list_nodes (declarations decls) (declarations decls)) i ≡ Some (Some x) → slice_get (list_nodes (declarations decls) (declarations decls)) j ≡ Some (Some x) → i ≡ j
  once x i j e f =
      found.apart i j (within i e) (within j f) (node_variable k (declarations decls) (list_nodes (declarations decls) (declarations decls)) i x refl e ∙ sym (node_variable k (declarations decls) (list_nodes (declarations decls) (declarations decls)) j x refl f))
    where
      within : (q : ℕ) → slice_get (list_nodes (declarations decls) (declarations decls)) q ≡ Some (Some x) → q < length nodes
      within q g = subst (λ m. q < m) (sym (ap length found.nodes_are)) (slice_get_within (list_nodes (declarations decls) (declarations decls)) q (Some x) g)

  record Referring (i j : ℕ) : Type 0 where
    refers : RefersTo (list_of k decls) (node_name k (declarations decls) i) (node_name k (declarations decls) j)
    source : i < length nodes
    target : j < length nodes

  referring : (i j : ℕ) → ListEdge (declarations decls) (list_nodes (declarations decls) (declarations decls)) (declarations decls) i j → Referring i j
  referring i j e =
      let s = edge_sound k (declarations decls) once L.units.0 (declarations decls) (λ q z h. h) i j e in record {
        refers = (
          subst (λ z. BindingMentions z (node_name k (declarations decls) j) (list_of k decls)) (sym (named i s.0 s.2)) (subst (λ z. BindingMentions s.0 z (list_of k decls)) (sym (named j s.1 s.3)) s.4),
          subst (λ z. IsUnsigned z (list_of k decls)) (sym (named j s.1 s.3)) ((names_unsigned k (declarations decls) (declarations decls) s.1).0 (Rattle.hm_infer_dependencies.proofs.Named.at_place s.1 (node_names k (declarations decls) (declarations decls)) j s.3)),
        );
        source = number_within i s.0 s.2;
        target = number_within j s.1 s.3;
      }

  module _ (finished status g : Identifier → Bool) (next : IsNext (list_of k decls) L.own finished g) (group : List ℕ) (tests : (y : Identifier) → Decides (g y) (IsOneOf y (names_at k (declarations decls) group))) (numbers : (j : ℕ) → IsOneOf j group → j < length nodes)
      (typed0 marked : List Bool) (is_marked : IsMarked group true typed0 marked) (table : (j : ℕ) → j < length nodes → get_or typed0 j false ≡ status (node_name k (declarations decls) j)) (ms : List Member) (are_members : AreMembersOf rows group ms)
      (down : (x y : Identifier) → status x ≡ true → BindingMentions x y (list_of k decls) → IsUnsigned y (list_of k decls) → status y ≡ true) where
    in_group : (j : ℕ) → j < length nodes → g (node_name k (declarations decls) j) ≡ true → IsOneOf j group
    in_group j l e =
        let h = named_in k (declarations decls) group (node_name k (declarations decls) j) ((tests (node_name k (declarations decls) j)).0 e) in
        subst (λ i. IsOneOf i group) (found.apart h.0 j (numbers h.0 h.1.0) l h.1.1) h.1.0

    group_in : (j : ℕ) → IsOneOf j group → g (node_name k (declarations decls) j) ≡ true
    group_in j o = (tests (node_name k (declarations decls) j)).1 (in_names k (declarations decls) group j o)

    marked_at : (j : ℕ) → get_or typed0 j false ≡ true → IsTyped marked j
    marked_at j e = at (is_in j group)
      where
        at : Dec (IsOneOf j group) → get_or marked j false ≡ true
        at (yes o) = (is_marked j).0 o
        at (no n) = (is_marked j).1 n ∙ e

    old_at : (j : ℕ) → ¬ (IsOneOf j group) → IsTyped marked j → get_or typed0 j false ≡ true
    old_at j n e = sym ((is_marked j).1 n) ∙ e

    module _ (told : TellsMembers true nodes marked decls ms) where
      stays : (i j : ℕ) → ListEdge (declarations decls) (list_nodes (declarations decls) (declarations decls)) (declarations decls) i j → IsTyped marked i → IsTyped marked j
      stays i j e t = at (is_in i group)
        where
          r : Referring i j
          r = referring i j e

          own_edge : (q : EdgeAt (declarations decls) (list_nodes (declarations decls) (declarations decls)) decls i j) → IsOneOf i group → IsTyped marked j
          own_edge q o = ⊎_elim
              (λ h. told (record { place = q.place; node = q.own })
              ((are_members (record { place = q.place; node = q.own })).1 (subst (λ z. IsOneOf z group) h.0 o, (found.rows_are.each q.own q.place).1 (slice_get_within decls q.place q.declaration q.at, q.owned)))
              q.declaration q.at j (subst (λ z. IsNodeWith z (λ y. DeclarationRefers y q.declaration) j) (sym found.nodes_are) h.1))
              (λ s.
              let b = referring j i (edge_from (declarations decls) (list_nodes (declarations decls) (declarations decls)) decls j i q.place q.declaration q.own q.at q.owned (inr (star_back (list_nodes (declarations decls) (declarations decls)) q.declaration q.own i j s))) in
              let same : SameUnit (list_of k decls) (node_name k (declarations decls) i) (node_name k (declarations decls) j) = inr (directly r.refers, directly b.refers) in
              (is_marked j).0 (in_group j r.target (sym (next.whole (node_name k (declarations decls) i) (node_name k (declarations decls) j) (same_own (list_of k decls) L.own L.units (node_name k (declarations decls) i) (node_name k (declarations decls) j) r.refers.1 same)) ∙ group_in i o)))
              q.edge

          at : Dec (IsOneOf i group) → IsTyped marked j
          at (yes o) = own_edge (edge_at (declarations decls) (list_nodes (declarations decls) (declarations decls)) decls i j e) o
          at (no n) = marked_at j (table j r.target ∙ down (node_name k (declarations decls) i) (node_name k (declarations decls) j) (sym (table i r.source) ∙ old_at i n t) r.refers.0 r.refers.1)

      along : (i j : ℕ) → Closure (ListEdge (declarations decls) (list_nodes (declarations decls) (declarations decls)) (declarations decls)) i j → IsTyped marked i → IsTyped marked j
      along i j (one e) t = stays i j e t
      along i j (more {b = b} p e) t = stays b j e (along i b p t)

      pub free : IsFreeToJudge (list_of k decls) g status
      free x y gx m u gy =
          let h = named_in k (declarations decls) group x ((tests x).0 gx) in
          let q = place_of y (node_names k (declarations decls) (declarations decls)) ((names_unsigned k (declarations decls) (declarations decls) y).1 u) in
          let here : slice_get (node_names k (declarations decls) (declarations decls)) h.0 ≡ Some x = at_number h.0 (numbers h.0 h.1.0) ∙ ap Some h.1.1 in
          let is : node_name k (declarations decls) q.0 ≡ y = named q.0 y q.1 in
          let inside = number_within q.0 y q.1 in
          let apart_ : ¬ (IsOneOf q.0 group) = λ o. opposite (ap g (sym is) ∙ group_in q.0 o) gy in
          ⊎_elim
          (λ e. absurd (apart_ (subst (λ z. IsOneOf z group) e h.1.0)))
          (λ p. ap status (sym is) ∙ (sym (table q.0 inside) ∙ old_at q.0 apart_ (along h.0 q.0 p ((is_marked h.0).0 h.1.0))))
          (edge_back k (declarations decls) once L.units.0 (declarations decls) (λ j z e. e) (λ z s. s) h.0 q.0 x y here q.1 m)

    pub blocked : TellsMembers false nodes marked decls ms → IsBlocked (list_of k decls) g status
    blocked t =
        let m = t.0 in
        let d = t.1.1.0 in
        let j = t.1.1.1.1.0 in
        let o = (are_members t.0).0 t.1.0 in
        let w = (found.rows_are.each t.0.node t.0.place).0 o.1 in
        let r = referring t.0.node t.1.1.1.1.0 (edge_from (declarations decls) (list_nodes (declarations decls) (declarations decls)) decls t.0.node t.1.1.1.1.0 t.0.place t.1.1.0 t.0.node t.1.1.1.0 w.1 (inl (refl, subst (λ z. IsNodeWith z (λ y. DeclarationRefers y t.1.1.0) t.1.1.1.1.0) found.nodes_are t.1.1.1.1.1.0))) in
        let untyped = t.1.1.1.1.1.1 in
        let apart_ : ¬ (IsOneOf t.1.1.1.1.0 group) = λ p. opposite ((is_marked t.1.1.1.1.0).0 p) untyped in record {
          name = node_name k (declarations decls) t.0.node;
          member = group_in t.0.node o.0;
          other = node_name k (declarations decls) t.1.1.1.1.0;
          mentioned = r.refers.0;
          without_signature = r.refers.1;
          outside = other_false (g (node_name k (declarations decls) t.1.1.1.1.0)) (λ e. apart_ (in_group t.1.1.1.1.0 r.target e));
          untyped = sym (table t.1.1.1.1.0 r.target) ∙ (sym ((is_marked t.1.1.1.1.0).1 apart_) ∙ untyped);
        }
      where
        other_false : (b : Bool) → (b ≡ true → ⊥) → b ≡ false
        other_false true f = absurd (f refl)
        other_false false f = refl
