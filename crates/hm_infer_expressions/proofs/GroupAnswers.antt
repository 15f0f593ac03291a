-- The question that the members of a group ask is the group's.
use Rattle.std.proofs.Common.{◌≡◌, ℕ, zero, suc, ◌+◌, ◌-◌, ◌<◌, List, [], ◌∷◌, drop, length, get_or, Bool, true, false, cond, Option, Some, None, inl, inr, ◌⊎◌, ⊎_elim, ◌↔◌, refl, sym, ap, ◌∙◌, subst, arith, true≢false}
use Rattle.std.specs.List.{slice_get}
use Rattle.std.specs.Bool.{Decides}
use Rattle.std.proofs.lemmas.Option.{slice_get_within, get_or_from_slice_get}
use Rattle.hm_types.specs.Types.{Var, put}
use Rattle.hm_types.specs.Monotypes.{var}
use Rattle.hm_typing.specs.Names.{Identifier, binding, IsOneOf}
use Rattle.hm_typing.specs.Schemes.{Monotype, Scheme, IsInstance, scheme_put, monomorphic}
use Rattle.hm_typing.specs.Assumptions.{Assumptions, Has, assumptions_put, bind_all}
use Rattle.hm_typing.specs.Syntax as typed
use Rattle.hm_typing.specs.Mentions.{BindingsMention}
use Rattle.hm_typing.specs.Units.{IsSigned}
use Rattle.hm_typing.specs.SecondForm.{DeriveClauses}
use Rattle.hm_typing.specs.Orders.{within, IsReady, IsNext, Layout}
use Rattle.hm_typing.proofs.Names.{name_discrete}
use Rattle.hm_typing.proofs.More.{DeriveClauses-more}
use Rattle.hm_typing.proofs.Bind.{is_one_of, Has-Sees, Sees-Has}
use Rattle.hm_typing.proofs.SchemeLaws.{scheme_put_mono}
use Rattle.hm_typing.proofs.Matching.{AreTogether, together, own_name}
use Rattle.hm_typing.proofs.Local.{IsOneOf-left}
use Rattle.hm_typing.proofs.Groups.{over, GroupHas, GroupQ, cond_true, cond_false}
use Rattle.hm_typing.proofs.Bridge.{unsigned_name}
use Rattle.hm_syntax.specs.Trees.{Declaration, data_declaration, newtype_declaration, synonym_declaration, signature, clause, pattern_binding, Declarations, no_declarations, more_declarations}
use Rattle.hm_syntax.specs.Lists.{declarations}
use Rattle.hm_names.specs.Syntax.{Known, pattern_of, patterns_of, right_sides_of, where_of, bindings_of, is_continued, signature_of, add_clause, bound_by, declaration_count}
use Rattle.hm_infer_dependencies.specs.declared.members.Member.{Member}
use Rattle.hm_infer_dependencies.specs.Nodes.{list_nodes, owner}
use Rattle.hm_names_keys.specs.Variables.{variable_of, identifier}
use Rattle.hm_infer_dependencies.specs.Groups.{node_names, node_name}
use Rattle.hm_infer_dependencies.specs.References.{pattern_variables}
use Rattle.hm_typing.specs.Patterns.{Matches}
use Rattle.hm_infer_dependencies.specs.Members.{AreRows}
use Rattle.hm_infer_dependencies.specs.GroupMembers.{AreMembersOf}
use Rattle.hm_infer_dependencies.specs.Checked.{GroupUnder, OneHas, DeclarationsHave}
use Rattle.hm_infer_dependencies.proofs.ByDeclarations.{by_declarations}
use Rattle.hm_infer_dependencies.proofs.Named.{names_fit, fit_length}
use Rattle.hm_infer_dependencies.proofs.Owned.{names_up, owner_begins, begins_owned, variables_before, few_before, own_name_at, have_places, have_at, drop_at}
use Rattle.hm_infer_context.specs.Problems.{number}
use Rattle.hm_infer_context.specs.Environments.{Assumed, assumptions}
use Rattle.hm_infer_expressions.specs.Lists.{IsWritten}
use Rattle.hm_infer_expressions.specs.GroupQuestions.{type_at, MemberHas, StandBefore, HaveTypesOf, MembersHave, AreMembers, HaveTypesOfAll}
use Rattle.hm_infer_expressions.specs.BoundNames.{Binds, Sees, names_at, ArePlaced}
use Rattle.hm_infer_expressions.specs.Stages.{list_of, AreApart}
use Rattle.hm_infer_expressions.proofs.Steps.{variable_at}
use Rattle.hm_infer_expressions.proofs.OpenedForms.{written_list}

absurd_none : {X Y : Type 0} {a : X} → None ≡ Some a → Y
absurd_none h = cc

bool_cases : (b : Bool) → (b ≡ true) ⊎ (b ≡ false)
bool_cases true = inl refl
bool_cases false = inr refl

-- A group at assumptions that give more to what is mentioned

group_more : (D ds : typed.Bindings) (finished g : Identifier → Bool) (C C' : Assumptions) (τ : Identifier → Monotype) → IsReady ds (typed.names ds) finished g D → ((y : Identifier) → BindingsMention y D → IsWritten y) →
    ((y : Identifier) → IsWritten y → (IsOneOf y (typed.names ds) → (g y ≡ true) ⊎ ((finished y ≡ true) ⊎ IsSigned y ds)) → (t : Monotype) → Has C y t → Has C' y t) → GroupUnder g C τ D → GroupUnder g C' τ D
group_more typed.no_binding ds finished g C C' τ k w f h = tt
group_more (typed.unsigned x cs D) ds finished g C C' τ k w f h = (
  (λ gx. DeriveClauses-more cs C C' (τ x) (λ y i. f y (w y (inl i)) (λ o. k.0 gx y i o)) (h.0 gx)),
  group_more D ds finished g C C' τ k.1 (λ y i. w y (inr i)) f h.1,
)
group_more (typed.signed x s cs D) ds finished g C C' τ k w f h = group_more D ds finished g C C' τ k (λ y i. w y (inr i)) f h
group_more (typed.matched v p cs D) ds finished g C C' τ k w f h = (
  (λ gv. ((h.0 gv).0, DeriveClauses-more cs C C' (τ v) (λ y i. f y (w y (inl i)) (λ o. k.0 v (own_name v p) gv y (inr i) o)) (h.0 gv).1)),
  group_more D ds finished g C C' τ k.1 (λ y i. w y (inr i)) f h.1,
)

under_has : (D : typed.Bindings) (g : Identifier → Bool) (xs : List Identifier) (A : Assumptions) (B : Identifier → Scheme) (τ : Identifier → Monotype) → GroupHas g xs A B τ D ↔ GroupUnder g (bind_all xs (within g B τ) A) τ D
under_has typed.no_binding g xs A B τ = ((λ h. h), (λ h. h))
under_has (typed.unsigned x cs D) g xs A B τ = let i = under_has D g xs A B τ in ((λ h. (h.0, i.0 h.1)), (λ h. (h.0, i.1 h.1)))
under_has (typed.signed x s cs D) g xs A B τ = under_has D g xs A B τ
under_has (typed.matched k p cs D) g xs A B τ = let i = under_has D g xs A B τ in ((λ h. (h.0, i.0 h.1)), (λ h. (h.0, i.1 h.1)))

-- The names of a pattern binding are in one unit

together_rest : (own : Identifier → Identifier → Bool) (c : typed.Clauses → typed.Clauses) (rest : typed.Bindings) → AreTogether own (add_clause c rest) → AreTogether own rest
together_rest own c typed.no_binding h = h
together_rest own c (typed.unsigned x cs ds) h = h
together_rest own c (typed.signed x s cs ds) h = h
together_rest own c (typed.matched x p cs ds) h = h

together_clause : (own : Identifier → Identifier → Bool) (b : Bool) (n : Identifier) (o : Option Monotype) (c : typed.Clauses → typed.Clauses) (cs : typed.Clauses) (rest : typed.Bindings) → AreTogether own (cond b (add_clause c rest) (bound_by n o cs rest)) → AreTogether own rest
together_clause own true n o c cs rest h = together_rest own c rest h
together_clause own false n None c cs rest h = h
together_clause own false n (Some s) c cs rest h = h

together_at : (own : Identifier → Identifier → Bool) (k : Known) (all : Declarations) (decls : List Declaration) (i l c : ℕ) (p : Rattle.hm_syntax.specs.Trees.Pattern) (r : Rattle.hm_syntax.specs.Trees.RightSide) → AreTogether own (bindings_of k all (declarations decls)) → slice_get decls i ≡ Some (pattern_binding l c p r) →
    (x y : Identifier) → IsOneOf x (typed.matched_names (binding k.home (declaration_count (declarations (drop (suc i) decls)))) (pattern_of k p)) → IsOneOf y (typed.matched_names (binding k.home (declaration_count (declarations (drop (suc i) decls)))) (pattern_of k p)) → own x y ≡ true
together_at own k all decls i l c p r h e = at (subst (λ ds. AreTogether own (bindings_of k all (declarations ds))) (drop_at decls i (pattern_binding l c p r) e) (down decls i h))
  where
    at : AreTogether own (bindings_of k all (more_declarations (pattern_binding l c p r) (declarations (drop (suc i) decls)))) → (x y : Identifier) → IsOneOf x (typed.matched_names (binding k.home (declaration_count (declarations (drop (suc i) decls)))) (pattern_of k p)) → IsOneOf y (typed.matched_names (binding k.home (declaration_count (declarations (drop (suc i) decls)))) (pattern_of k p)) → own x y ≡ true
    at g = g.0

    one : (d : Declaration) (ds : Declarations) → AreTogether own (bindings_of k all (more_declarations d ds)) → AreTogether own (bindings_of k all ds)
    one (data_declaration n ps cs) ds g = g
    one (newtype_declaration n ps q) ds g = g
    one (synonym_declaration n ps t) ds g = g
    one (signature ns t) ds g = g
    one (clause n ps q) ds g = together_clause own (is_continued n.text ps ds) (identifier (variable_of n)) (signature_of n.text all) (λ cs. typed.clause (patterns_of k ps) (right_sides_of k q) (where_of k q) cs) (typed.clause (patterns_of k ps) (right_sides_of k q) (where_of k q) typed.no_clause) (bindings_of k all ds) g
    one (pattern_binding m n q s) ds g = g.1

    down : (ds : List Declaration) (j : ℕ) → AreTogether own (bindings_of k all (declarations ds)) → AreTogether own (bindings_of k all (declarations (drop j ds)))
    down ds zero g = g
    down [] (suc j) g = g
    down (d ∷ ds) (suc j) g = down ds j (one d (declarations ds) g)

-- The names of a group

named_in : (k : Known) (all : Declarations) (group : List ℕ) (x : Identifier) → IsOneOf x (names_at k all group) → (j : ℕ) × (IsOneOf j group × (node_name k all j ≡ x))
named_in k all [] x o = absurd o
named_in k all (j ∷ group) x (inl e) = (j, (inl refl, sym e))
named_in k all (j ∷ group) x (inr o) = let h = named_in k all group x o in (h.0, (inr h.1.0, h.1.1))

pub in_names : (k : Known) (all : Declarations) (group : List ℕ) (j : ℕ) → IsOneOf j group → IsOneOf (node_name k all j) (names_at k all group)
in_names k all [] j o = absurd o
in_names k all (i ∷ group) j (inl e) = inl (ap (node_name k all) e)
in_names k all (i ∷ group) j (inr o) = inr (in_names k all group j o)

abbrev choose : {P : Type 0} → Dec P → ℕ → ℕ → ℕ
choose (yes p) m n = m
choose (no q) m n = n

-- the place of a name among the variables that were given to a group
abbrev pub place_among : Known → Declarations → List ℕ → ℕ → List ℕ → Identifier → ℕ
place_among k all types first [] y = 0
place_among k all types first (j ∷ group) y = choose (name_discrete (node_name k all j) y) (get_or types j 0 - first) (place_among k all types first group y)

found_place : (k : Known) (all : Declarations) (types : List ℕ) (first : ℕ) (group : List ℕ) (y : Identifier) → IsOneOf y (names_at k all group) → (j : ℕ) × (IsOneOf j group × ((node_name k all j ≡ y) × (place_among k all types first group y ≡ get_or types j 0 - first)))
found_place k all types first [] y o = absurd o
found_place k all types first (j ∷ group) y o = at (name_discrete (node_name k all j) y) o (found_place k all types first group y)
  where
    at : (d : Dec (node_name k all j ≡ y)) → IsOneOf y (names_at k all (j ∷ group)) → (IsOneOf y (names_at k all group) → (i : ℕ) × (IsOneOf i group × ((node_name k all i ≡ y) × (place_among k all types first group y ≡ get_or types i 0 - first)))) →
        (i : ℕ) × (IsOneOf i (j ∷ group) × ((node_name k all i ≡ y) × (choose d (get_or types j 0 - first) (place_among k all types first group y) ≡ get_or types i 0 - first)))
    at (yes e) q f = (j, (inl refl, (e, refl)))
    at (no n) (inl e) f = absurd (n (sym e))
    at (no n) (inr q) f = let h = f q in (h.0, (inr h.1.0, h.1.1))

-- A list's declarations, a group of its nodes, and the members of this
module _ (k : Known) (decls : List Declaration) (n : ℕ) (long : n ≡ length (list_nodes (declarations decls) (declarations decls))) (apart : AreApart k decls n) (rows : List (List ℕ)) (are_rows : AreRows decls n rows) (group : List ℕ) (numbers : (j : ℕ) → IsOneOf j group → j < n) (ms : List Member) (are_members : AreMembersOf rows group ms) where
  abbrev D : Declarations
  D = declarations decls

  node_below : (j : ℕ) (x : Identifier) → slice_get (node_names k (declarations decls) (declarations decls)) j ≡ Some x → j < n
  node_below j x e = let a = fit_length (list_nodes (declarations decls) (declarations decls)) (node_names k (declarations decls) (declarations decls)) (names_fit k (declarations decls) (declarations decls)) in let b = slice_get_within (node_names k (declarations decls) (declarations decls)) j x e in omega (arith, a, b, long)

  node_is : (j : ℕ) (x : Identifier) → slice_get (node_names k (declarations decls) (declarations decls)) j ≡ Some x → node_name k (declarations decls) j ≡ x
  node_is j x e = get_or_from_slice_get (node_names k (declarations decls) (declarations decls)) j x (Rattle.hm_typing.specs.Names.local []) e

  -- a node of this name in the group is the node
  the_node : (j : ℕ) (x : Identifier) → slice_get (node_names k (declarations decls) (declarations decls)) j ≡ Some x → IsOneOf x (names_at k (declarations decls) group) → IsOneOf j group
  the_node j x e o =
      let h = named_in k (declarations decls) group x o in
      subst (λ i. IsOneOf i group) (apart h.0 j (numbers h.0 h.1.0) (node_below j x e) (h.1.1 ∙ sym (node_is j x e))) h.1.0

  owner_at : (m : Member) → IsOneOf m ms → (m.place < length decls) × ((owner (declarations decls) (declarations (drop m.place decls)) ≡ Some (m.node)) × IsOneOf m.node group)
  owner_at m o = let h = (are_members m).0 o in let r = (are_rows.each m.node m.place).0 h.1 in (r.0, (r.1, h.0))

  pub members_are : AreMembers k decls n ms
  members_are m o = let h = owner_at m o in (h.0, (numbers m.node h.1.1, λ d e. before m.node d (declarations (drop (suc m.place) decls)) (subst (λ ds. owner (declarations decls) (declarations ds) ≡ Some (m.node)) (drop_at decls m.place d e) h.1.0)))
    where
      before : (own : ℕ) (d : Declaration) (ds : Declarations) → owner (declarations decls) (more_declarations d ds) ≡ Some own → StandBefore k own d
      before own (data_declaration x ps cs) ds e = tt
      before own (newtype_declaration x ps c) ds e = tt
      before own (synonym_declaration x ps t) ds e = tt
      before own (signature ns t) ds e = tt
      before own (clause x ps r) ds e = tt
      before own (pattern_binding l c p r) ds e = few_before k (declarations decls) ds l c p r own e

  module _ (types : List ℕ) (first : ℕ) (are_placed : ArePlaced first group types) where
    abbrev place : Identifier → ℕ
    place = place_among k (declarations decls) types first group

    -- the name of a variable's place
    abbrev pub named : ℕ → Identifier
    named p = node_name k (declarations decls) (get_or group p 0)

    pub placed : (x : Identifier) → IsOneOf x (names_at k (declarations decls) group) → (place_among k (declarations decls) types first group x < length group) × (node_name k (declarations decls) (get_or group (place_among k (declarations decls) types first group x) 0) ≡ x)
    placed x o =
        let h = found_place k (declarations decls) types first group x o in
        let q = are_placed h.0 h.1.0 in
        let e : place_among k (declarations decls) types first group x ≡ q.0 = (let a = h.1.1.1 in let b = q.3 in omega (arith, a, b)) in
        (subst (λ z. z < length group) (sym e) q.1, ap (λ z. node_name k (declarations decls) (get_or group z 0)) e ∙ (ap (node_name k (declarations decls)) q.2 ∙ h.1.1.0))

    -- the variable of a name is that of its node
    pub type_is : (j : ℕ) → IsOneOf j group → variable_at first (place_among k (declarations decls) types first group) (node_name k (declarations decls) j) ≡ type_at types j
    type_is j o =
        let h = found_place k (declarations decls) types first group (node_name k (declarations decls) j) (in_names k (declarations decls) group j o) in
        let same : h.0 ≡ j = apart h.0 j (numbers h.0 h.1.0) (numbers j o) h.1.1.0 in
        let q = are_placed j o in
        let e : first + place_among k (declarations decls) types first group (node_name k (declarations decls) j) ≡ get_or types j 0 = (let a = h.1.1.1 in let b : get_or types h.0 0 ≡ get_or types j 0 = ap (λ z. get_or types z 0) same in let c = q.3 in omega (arith, a, b, c)) in
        ap (λ z. Var (number (var z))) e

    module _ (L : Layout (list_of k decls)) (finished g : Identifier → Bool) (next : IsNext (list_of k decls) L.own finished g) (tests : (y : Identifier) → Decides (g y) (IsOneOf y (names_at k (declarations decls) group))) where
      in_group : (x : Identifier) → g x ≡ true → IsOneOf x (names_at k (declarations decls) group)
      in_group x e = (tests x).0 e

      node_in : (j : ℕ) → IsOneOf j group → g (node_name k (declarations decls) j) ≡ true
      node_in j o = (tests (node_name k (declarations decls) j)).1 (in_names k (declarations decls) group j o)

      pub all_placed : (x : Identifier) → g x ≡ true → (place_among k (declarations decls) types first group x < length group) × (node_name k (declarations decls) (get_or group (place_among k (declarations decls) types first group x) 0) ≡ x)
      all_placed x e = placed x (in_group x e)

      -- the variables of the pattern bindings have the types of their nodes
      pub types_are : HaveTypesOfAll k decls (variable_at first (place_among k (declarations decls) types first group)) types ms
      types_are m o d e = at d e refl (subst (λ ds. owner (declarations decls) (declarations ds) ≡ Some (m.node)) (drop_at decls m.place d e) (owner_at m o).1.0)
        where
          at : (b : Declaration) → slice_get decls m.place ≡ Some b → b ≡ b → owner (declarations decls) (more_declarations b (declarations (drop (suc m.place) decls))) ≡ Some (m.node) → HaveTypesOf k (variable_at first (place_among k (declarations decls) types first group)) types m.node b
          at (data_declaration x ps cs) h s e = tt
          at (newtype_declaration x ps c) h s e = tt
          at (synonym_declaration x ps t) h s e = tt
          at (signature ns t) h s e = tt
          at (clause x ps r) h s e = tt
          at (pattern_binding l c p r) h s e = λ q x f.
              let rest = declarations (drop (suc m.place) decls) in
              let own = binding k.home (declaration_count rest) in
              let v = variables_before k (declarations decls) rest l c p r m.node e q x f in
              let up : slice_get (node_names k (declarations decls) (declarations decls)) (m.node - length (typed.pattern_names (pattern_of k p)) + q) ≡ Some x =
              names_up k (declarations decls) decls m.place _ x (subst (λ ds. slice_get (node_names k (declarations decls) (declarations ds)) (m.node - length (typed.pattern_names (pattern_of k p)) + q) ≡ Some x) (sym (drop_at decls m.place (pattern_binding l c p r) h)) v.1) in
              let mine : slice_get (node_names k (declarations decls) (declarations decls)) m.node ≡ Some own =
              names_up k (declarations decls) decls m.place m.node own (subst (λ ds. slice_get (node_names k (declarations decls) (declarations ds)) m.node ≡ Some own) (sym (drop_at decls m.place (pattern_binding l c p r) h)) (own_name_at k (declarations decls) rest l c p r m.node e)) in
              let one : L.own own x ≡ true = together_at L.own k (declarations decls) decls m.place l c p r (together (list_of k decls) L.own L.units) h own x (own_name own (pattern_of k p)) (IsOneOf-left x (typed.pattern_names (pattern_of k p)) (own ∷ []) (among (typed.pattern_names (pattern_of k p)) q x f)) in
              let gx : g x ≡ true = sym (next.whole own x one) ∙ (ap g (sym (node_is m.node own mine)) ∙ node_in m.node (owner_at m o).1.1) in
              let j : IsOneOf (m.node - length (typed.pattern_names (pattern_of k p)) + q) group = the_node _ x up (in_group x gx) in
              ap (variable_at first (place_among k (declarations decls) types first group)) (sym (node_is _ x up)) ∙ type_is _ j
            where
              among : (zs : List Identifier) (i : ℕ) (y : Identifier) → slice_get zs i ≡ Some y → IsOneOf y zs
              among [] i y w = absurd_none w
              among (z ∷ zs) zero y w = inl (some_one w)
                where
                  some_one : Some z ≡ Some y → y ≡ z
                  some_one u = cc
              among (z ∷ zs) (suc i) y w = inr (among zs i y w)

      member_at : (i j : ℕ) → i < length decls → owner (declarations decls) (declarations (drop i decls)) ≡ Some j → IsOneOf j group → IsOneOf (record { place = i; node = j }) ms
      member_at i j l e o = (are_members (record { place = i; node = j })).1 (o, (are_rows.each j i).1 (l, e))

      -- what the members ask, declaration by declaration
      pub to_declarations : (C : Assumptions) (ρ : Identifier → Monotype) (v : ℕ → Monotype) → ((j : ℕ) → IsOneOf j group → ρ (node_name k (declarations decls) j) ≡ v j) → ((m : Member) → IsOneOf m ms → (d : Declaration) → slice_get decls m.place ≡ Some d → MemberHas k C ρ (v m.node) d) → DeclarationsHave g C ρ k (declarations decls) (declarations decls)
      to_declarations C ρ v agree f = have_places g C ρ k (declarations decls) decls (λ i d e. at i d e)
        where
          at : (i : ℕ) (d : Declaration) → slice_get decls i ≡ Some d → OneHas g C ρ k (declarations decls) d (declarations (drop (suc i) decls))
          at i (data_declaration x ps cs) e = tt
          at i (newtype_declaration x ps c) e = tt
          at i (synonym_declaration x ps t) e = tt
          at i (signature ns t) e = tt
          at i (clause x ps r) e = λ y b gy.
              let h = begins_owned k (declarations decls) (more_declarations (clause x ps r) (declarations (drop (suc i) decls))) y tt b in
              let here : declarations (drop i decls) ≡ more_declarations (clause x ps r) (declarations (drop (suc i) decls)) = ap declarations (drop_at decls i (clause x ps r) e) in
              let up : slice_get (node_names k (declarations decls) (declarations decls)) h.0 ≡ Some y = names_up k (declarations decls) decls i h.0 y (subst (λ ds. slice_get (node_names k (declarations decls) ds) h.0 ≡ Some y) (sym here) h.2) in
              let o : IsOneOf h.0 group = the_node h.0 y up (in_group y gy) in
              let m : IsOneOf (record { place = i; node = h.0 }) ms = member_at i h.0 (slice_get_within decls i (clause x ps r) e) (subst (λ ds. owner (declarations decls) ds ≡ Some (h.0)) (sym here) h.1) o in
              subst (λ t. DeriveClauses C (typed.clause (patterns_of k ps) (right_sides_of k r) (where_of k r) typed.no_clause) t) (sym (agree h.0 o) ∙ ap ρ (node_is h.0 y up)) (f (record { place = i; node = h.0 }) m (clause x ps r) e)
          at i (pattern_binding l c p r) e = λ go.
              let rest = declarations (drop (suc i) decls) in
              let own = binding k.home (declaration_count rest) in
              let j = length (list_nodes (declarations decls) rest) + length (pattern_variables p) in
              let here : declarations (drop i decls) ≡ more_declarations (pattern_binding l c p r) rest = ap declarations (drop_at decls i (pattern_binding l c p r) e) in
              let up : slice_get (node_names k (declarations decls) (declarations decls)) j ≡ Some own = names_up k (declarations decls) decls i j own (subst (λ ds. slice_get (node_names k (declarations decls) ds) j ≡ Some own) (sym here) (own_name_at k (declarations decls) rest l c p r j refl)) in
              let o : IsOneOf j group = the_node j own up (in_group own go) in
              let m : IsOneOf (record { place = i; node = j }) ms = member_at i j (slice_get_within decls i (pattern_binding l c p r) e) (subst (λ ds. owner (declarations decls) ds ≡ Some j) (sym here) refl) o in
              subst (λ t. Matches ρ (pattern_of k p) t × DeriveClauses C (typed.clause typed.no_pattern (right_sides_of k r) (where_of k r) typed.no_clause) t) (sym (agree j o) ∙ ap ρ (node_is j own up)) (f (record { place = i; node = j }) m (pattern_binding l c p r) e)

      pub from_declarations : (C : Assumptions) (ρ : Identifier → Monotype) (v : ℕ → Monotype) → ((j : ℕ) → IsOneOf j group → ρ (node_name k (declarations decls) j) ≡ v j) → DeclarationsHave g C ρ k (declarations decls) (declarations decls) → (m : Member) → IsOneOf m ms → (d : Declaration) → slice_get decls m.place ≡ Some d → MemberHas k C ρ (v m.node) d
      from_declarations C ρ v agree h m o d e = at d e (have_at g C ρ k (declarations decls) decls h m.place d e)
        where
          own_at : (b : Declaration) → slice_get decls m.place ≡ Some b → owner (declarations decls) (more_declarations b (declarations (drop (suc m.place) decls))) ≡ Some (m.node)
          own_at b q = subst (λ ds. owner (declarations decls) (declarations ds) ≡ Some (m.node)) (drop_at decls m.place b q) (owner_at m o).1.0

          at : (b : Declaration) → slice_get decls m.place ≡ Some b → OneHas g C ρ k (declarations decls) b (declarations (drop (suc m.place) decls)) → MemberHas k C ρ (v m.node) b
          at (data_declaration x ps cs) q one = tt
          at (newtype_declaration x ps c) q one = tt
          at (synonym_declaration x ps t) q one = tt
          at (signature ns t) q one = tt
          at (clause x ps r) q one =
              let rest = declarations (drop (suc m.place) decls) in
              let here : declarations (drop m.place decls) ≡ more_declarations (clause x ps r) rest = ap declarations (drop_at decls m.place (clause x ps r) q) in
              let b = owner_begins k (declarations decls) (more_declarations (clause x ps r) rest) m.node tt (own_at (clause x ps r) q) in
              let up : slice_get (node_names k (declarations decls) (declarations decls)) m.node ≡ Some (b.0) = names_up k (declarations decls) decls m.place m.node b.0 (subst (λ ds. slice_get (node_names k (declarations decls) ds) m.node ≡ Some (b.0)) (sym here) b.1) in
              subst (λ t. DeriveClauses C (typed.clause (patterns_of k ps) (right_sides_of k r) (where_of k r) typed.no_clause) t) (ap ρ (sym (node_is m.node b.0 up)) ∙ agree m.node (owner_at m o).1.1)
              (one b.0 b.2 (ap g (sym (node_is m.node b.0 up)) ∙ node_in m.node (owner_at m o).1.1))
          at (pattern_binding l c p r) q one =
              let rest = declarations (drop (suc m.place) decls) in
              let own = binding k.home (declaration_count rest) in
              let here : declarations (drop m.place decls) ≡ more_declarations (pattern_binding l c p r) rest = ap declarations (drop_at decls m.place (pattern_binding l c p r) q) in
              let up : slice_get (node_names k (declarations decls) (declarations decls)) m.node ≡ Some own = names_up k (declarations decls) decls m.place m.node own (subst (λ ds. slice_get (node_names k (declarations decls) ds) m.node ≡ Some own) (sym here) (own_name_at k (declarations decls) rest l c p r m.node (own_at (pattern_binding l c p r) q))) in
              subst (λ t. Matches ρ (pattern_of k p) t × DeriveClauses C (typed.clause typed.no_pattern (right_sides_of k r) (where_of k r) typed.no_clause) t) (ap ρ (sym (node_is m.node own up)) ∙ agree m.node (owner_at m o).1.1)
              (one (ap g (sym (node_is m.node own up)) ∙ node_in m.node (owner_at m o).1.1))

      module _ (B : Identifier → Scheme) (base es0 es1 : List Assumed) (sees : Sees (list_of k decls) (assumptions base) finished B es0) (binds : Binds (names_at k (declarations decls) group) (λ x. monomorphic (variable_at first (place_among k (declarations decls) types first group) x)) es0 es1) where
        abbrev τ : Identifier → Monotype
        τ = variable_at first (place_among k (declarations decls) types first group)

        -- what the group sees in the program is what it sees in the theory
        same_seen : (r : ℕ → Monotype) (y : Identifier) → IsWritten y → (IsOneOf y (typed.names (list_of k decls)) → (g y ≡ true) ⊎ ((finished y ≡ true) ⊎ IsSigned y (list_of k decls))) → (t : Monotype) →
            Has (assumptions_put r (assumptions es1)) y t ↔ Has (bind_all (typed.names (list_of k decls)) (within g (over r B) (λ z. put r (variable_at first (place_among k (declarations decls) types first group) z))) (assumptions_put r (assumptions base))) y t
        same_seen r y w kind t = at (is_one_of y (typed.names (list_of k decls)))
          where
            xs : List Identifier
            xs = typed.names (list_of k decls)

            ρ : Identifier → Monotype
            ρ z = put r (variable_at first (place_among k (declarations decls) types first group) z)

            theirs : IsOneOf y (typed.names (list_of k decls)) → Has (bind_all (typed.names (list_of k decls)) (within g (over r B) (λ z. put r (variable_at first (place_among k (declarations decls) types first group) z))) (assumptions_put r (assumptions base))) y t ↔ IsInstance t (within g (over r B) (λ z. put r (variable_at first (place_among k (declarations decls) types first group) z)) y)
            theirs o = (
              (λ h. ⊎_elim (λ q. q.1) (λ q. absurd (q.0 o)) (Has-Sees xs (within g (over r B) ρ) (assumptions_put r (assumptions base)) y t h)),
              (λ i. Sees-Has xs (within g (over r B) ρ) (assumptions_put r (assumptions base)) y t (inl (o, i))),
            )

            not_grouped : g y ≡ false → ¬ (IsOneOf y (names_at k (declarations decls) group))
            not_grouped e o = true≢false (sym ((tests y).1 o) ∙ e)

            inside : IsOneOf y (typed.names (list_of k decls)) → (g y ≡ true) ⊎ ((finished y ≡ true) ⊎ IsSigned y (list_of k decls)) → (g y ≡ true) ⊎ (g y ≡ false) → Has (assumptions_put r (assumptions es1)) y t ↔ IsInstance t (within g (over r B) (λ z. put r (variable_at first (place_among k (declarations decls) types first group) z)) y)
            inside o c (inl e) =
                let b = binds.inside r y w (in_group y e) t in
                let same : within g (over r B) ρ y ≡ scheme_put r (monomorphic (variable_at first (place_among k (declarations decls) types first group) y)) = cond_true (g y) _ _ e ∙ sym (scheme_put_mono r (variable_at first (place_among k (declarations decls) types first group) y)) in
                ((λ h. subst (IsInstance t) (sym same) (b.0 h)), (λ i. b.1 (subst (IsInstance t) same i)))
            inside o c (inr e) =
                let b = binds.outside r y w (not_grouped e) t in
                let known = sees.known r y w (⊎_elim (λ q. absurd (true≢false (sym q ∙ e))) (λ q. q) c) t in
                let same : within g (over r B) ρ y ≡ scheme_put r (B y) = cond_false (g y) _ _ e in
                ((λ h. subst (IsInstance t) (sym same) (known.0 (b.0 h))), (λ i. b.1 (known.1 (subst (IsInstance t) same i))))

            at : Dec (IsOneOf y (typed.names (list_of k decls))) → Has (assumptions_put r (assumptions es1)) y t ↔ Has (bind_all (typed.names (list_of k decls)) (within g (over r B) (λ z. put r (variable_at first (place_among k (declarations decls) types first group) z))) (assumptions_put r (assumptions base))) y t
            at (yes o) = let a = inside o (kind o) (bool_cases (g y)) in let b = theirs o in ((λ h. b.1 (a.0 h)), (λ h. a.1 (b.0 h)))
            at (no n) =
                let out : ¬ (IsOneOf y (names_at k (declarations decls) group)) = λ o. n (unsigned_name (list_of k decls) y ((L.units.1 y y).0 (next.unit y y ((tests y).1 o) ((tests y).1 o))).0) in
                let b = binds.outside r y w out t in
                let c = sees.others r y w n t in (
                  (λ h. Sees-Has xs (within g (over r B) ρ) (assumptions_put r (assumptions base)) y t (inr (n, c.0 (b.0 h)))),
                  (λ h. b.1 (c.1 (⊎_elim (λ q. absurd (n q.0)) (λ q. q.1) (Has-Sees xs (within g (over r B) ρ) (assumptions_put r (assumptions base)) y t h)))),
                )

        pub question_to : (r : ℕ → Monotype) → MembersHave k decls types (variable_at first (place_among k (declarations decls) types first group)) ms (assumptions es1) r → GroupQ g (typed.names (list_of k decls)) (assumptions base) B (variable_at first (place_among k (declarations decls) types first group)) (list_of k decls) r
        question_to r p =
            let C1 = assumptions_put r (assumptions es1) in
            let ρ : Identifier → Monotype = λ z. put r (variable_at first (place_among k (declarations decls) types first group) z) in
            (under_has (list_of k decls) g (typed.names (list_of k decls)) (assumptions_put r (assumptions base)) (over r B) ρ).1
            (group_more (list_of k decls) (list_of k decls) finished g C1 _ ρ next.ready (written_list k (declarations decls) (declarations decls)) (λ y w c t h. (same_seen r y w c t).0 h)
            ((by_declarations g C1 ρ k (declarations decls) (declarations decls)).1 (to_declarations C1 ρ (λ j. put r (type_at types j)) (λ j o. ap (put r) (type_is j o)) p)))

        pub question_from : (r : ℕ → Monotype) → GroupQ g (typed.names (list_of k decls)) (assumptions base) B (variable_at first (place_among k (declarations decls) types first group)) (list_of k decls) r → MembersHave k decls types (variable_at first (place_among k (declarations decls) types first group)) ms (assumptions es1) r
        question_from r p =
            let C1 = assumptions_put r (assumptions es1) in
            let ρ : Identifier → Monotype = λ z. put r (variable_at first (place_among k (declarations decls) types first group) z) in
            from_declarations C1 ρ (λ j. put r (type_at types j)) (λ j o. ap (put r) (type_is j o))
            ((by_declarations g C1 ρ k (declarations decls) (declarations decls)).0
            (group_more (list_of k decls) (list_of k decls) finished g _ C1 ρ next.ready (written_list k (declarations decls) (declarations decls)) (λ y w c t h. (same_seen r y w c t).1 h)
            ((under_has (list_of k decls) g (typed.names (list_of k decls)) (assumptions_put r (assumptions base)) (over r B) ρ).0 p)))
