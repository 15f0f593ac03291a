-- What a node reaches is what its name reaches.
use Rattle.std.proofs.Common.{◌≡◌, ℕ, zero, suc, ◌+◌, ◌<◌, Bool, true, false, cond, List, [], ◌∷◌, ◌++◌, map, length, Option, Some, None, is_some, ◌⊎◌, ⊎_elim, inl, inr, refl, sym, ap, ◌∙◌, subst, arith}
use Rattle.std.specs.List.{slice_get}
use Rattle.std.proofs.lemmas.Option.{slice_get_within, get_or_from_slice_get, slice_get-get_or}
use Rattle.hm_graph_components.specs.Closure.{Closure, one, more}
use Rattle.hm_graph_components.specs.Digraph.{Graph, Edge, AreGroups}
use Rattle.hm_typing.specs.Names.{Identifier, local, global, binding, IsOneOf, IsDistinct}
use Rattle.hm_typing.specs.Schemes.{Monotype}
use Rattle.hm_typing.specs.Syntax as typed
use Rattle.hm_typing.specs.Mentions.{ClausesMention}
use Rattle.hm_typing.specs.Units.{IsUnsigned, IsSigned, BindingMentions, RefersTo, Reaches, directly, through}
use Rattle.hm_typing.specs.Orders.{AreNumberedGroups}
use Rattle.hm_typing.proofs.Bridge.{one_kind}
use Rattle.hm_typing.proofs.Judge.{Reaches-trans}
use Rattle.hm_syntax.specs.Trees.{Pattern, Declaration, data_declaration, newtype_declaration, synonym_declaration, signature, clause, pattern_binding, Declarations, no_declarations, more_declarations, RightSide}
use Rattle.hm_names.specs.Syntax.{Known, pattern_of, patterns_of, right_sides_of, where_of, bindings_of, is_continued, signature_of, add_clause, bound_by, declaration_count}
use Rattle.hm_names_keys.specs.Variables.{Variable, variable_of, identifier}
use Rattle.hm_infer_dependencies.specs.References.{pattern_variables, patterns_variables, RightSideRefers}
use Rattle.hm_infer_dependencies.specs.Walks.{IsNodeWith}
use Rattle.hm_infer_dependencies.specs.Nodes.{list_nodes, ListEdge, IsGraphOf}
use Rattle.hm_infer_dependencies.specs.Groups.{node_names, node_name}
use Rattle.hm_infer_dependencies.proofs.Walking.{among-left, among-right, among-cases}
use Rattle.hm_names_keys.proofs.Pushed.{some_injective}
use Rattle.hm_infer_dependencies.proofs.Mentioned.{begins, patterns_among, pattern_among, right_side_same, pattern_same}
use Rattle.hm_names_keys.proofs.Identifiers.{identifier_injective}
use Rattle.hm_infer_dependencies.proofs.Named.{IsOwnName, AllFit, names_fit, fit_length, fit_variable, fit_back, names_unsigned, place_of, at_place}
use Rattle.hm_infer_dependencies.proofs.Reached.{own_is, never_right, FirstIs, clause_binding, get_append, own_place, owner_first, head_owner, signed_add}
use Rattle.hm_infer_dependencies.proofs.Grouped.{numbered_in_order, numbered_all}

absurd_none : {X Y : Type 0} {a : X} → None ≡ Some a → Y
absurd_none h = cc

-- closures

lift : {R S : ℕ → ℕ → Type 0} {a b : ℕ} → ((x y : ℕ) → R x y → S x y) → Closure R a b → Closure S a b
lift f (one e) = one (f _ _ e)
lift f (more p e) = more (lift f p) (f _ _ e)

join : {R : ℕ → ℕ → Type 0} {a b c : ℕ} → Closure R a b → Closure R b c → Closure R a c
join p (one e) = more p e
join p (more q e) = more (join p q) e

-- one first name

first_once : (b : typed.Bindings) (x y : Identifier) → FirstIs x b → FirstIs y b → x ≡ y
first_once typed.no_binding x y f g = absurd f
first_once (typed.unsigned z cs ds) x y f g = f ∙ sym g
first_once (typed.signed z s cs ds) x y f g = f ∙ sym g
first_once (typed.matched z p cs ds) x y f g = f ∙ sym g

-- signed names of the rest are signed

signed_cond : (b : Bool) (x n : Identifier) (o : Option Monotype) (c : typed.Clauses → typed.Clauses) (cs : typed.Clauses) (rest : typed.Bindings) → IsSigned x rest → IsSigned x (cond b (add_clause c rest) (bound_by n o cs rest))
signed_cond true x n o c cs rest h = signed_add x c rest h
signed_cond false x n None c cs rest h = h
signed_cond false x n (Some s) c cs rest h = inr h

signed_up : (k : Known) (all : Declarations) (d : Declaration) (ds : Declarations) (x : Identifier) → IsSigned x (bindings_of k all ds) → IsSigned x (bindings_of k all (more_declarations d ds))
signed_up k all (data_declaration n ps cs) ds x h = h
signed_up k all (newtype_declaration n ps c) ds x h = h
signed_up k all (synonym_declaration n ps t) ds x h = h
signed_up k all (signature ns t) ds x h = h
signed_up k all (clause n ps r) ds x h = signed_cond (is_continued n.text ps ds) x (identifier (variable_of n)) (signature_of n.text all) (λ cs. typed.clause (patterns_of k ps) (right_sides_of k r) (where_of k r) cs) (typed.clause (patterns_of k ps) (right_sides_of k r) (where_of k r) typed.no_clause) (bindings_of k all ds) h
signed_up k all (pattern_binding l c p r) ds x h = h

-- where own names stand

not_own : (x : Identifier) (vs : List Variable) → IsOneOf x (map identifier vs) → ¬ (IsOwnName x)
not_own x [] o h = o
not_own x (v ∷ vs) (inl e) h = own_is v.qualifier v.text (subst IsOwnName e h)
not_own x (v ∷ vs) (inr o) h = not_own x vs o h

get_cases : (xs ys : List Identifier) (j : ℕ) (z : Identifier) → slice_get (xs ++ ys) j ≡ Some z → (slice_get xs j ≡ Some z) ⊎ ((p : ℕ) × (j ≡ length xs + p) × (slice_get ys p ≡ Some z))
get_cases [] ys j z e = inr (j, omega arith, e)
get_cases (x ∷ xs) ys zero z e = inl e
get_cases (x ∷ xs) ys (suc j) z e = ⊎_elim inl (λ h. inr (h.0, (let q = h.1 in omega arith), h.2)) (get_cases xs ys j z e)

last_own : (vs : List Variable) (o : Identifier) (p : ℕ) (z : Identifier) → IsOwnName z → slice_get (map identifier vs ++ o ∷ []) p ≡ Some z → (p ≡ length vs) × (z ≡ o)
last_own [] o zero z h e = (refl, sym (some_injective e))
last_own [] o (suc p) z h e = absurd_none e
last_own (v ∷ vs) o zero z h e = absurd (own_is v.qualifier v.text (subst IsOwnName (sym (some_injective e)) h))
last_own (v ∷ vs) o (suc p) z h e = let g = last_own vs o p z h e in (ap suc g.0, g.1)

abbrev own_number : Identifier → ℕ
own_number (local x) = 0
own_number (global e) = 0
own_number (binding m i) = i

clause_own : (c s : Bool) (n : Variable) (z : Identifier) → IsOwnName z → ¬ (IsOneOf z (cond c [] (cond s [] (identifier n ∷ []))))
clause_own true s n z h o = o
clause_own false true n z h o = o
clause_own false false n z h (inl e) = own_is n.qualifier n.text (subst IsOwnName e h)
clause_own false false n z h (inr o) = o

own_low : (k : Known) (all ds : Declarations) (z : Identifier) → IsOwnName z → IsOneOf z (node_names k all ds) → own_number z < declaration_count ds
own_low k all no_declarations z h o = absurd o
own_low k all (more_declarations (data_declaration n ps cs) ds) z h o = let g = ⊎_elim (λ a. own_low k all ds z h a) (λ a. absurd a) (among-cases z (node_names k all ds) [] o) in omega (arith, g)
own_low k all (more_declarations (newtype_declaration n ps c) ds) z h o = let g = ⊎_elim (λ a. own_low k all ds z h a) (λ a. absurd a) (among-cases z (node_names k all ds) [] o) in omega (arith, g)
own_low k all (more_declarations (synonym_declaration n ps t) ds) z h o = let g = ⊎_elim (λ a. own_low k all ds z h a) (λ a. absurd a) (among-cases z (node_names k all ds) [] o) in omega (arith, g)
own_low k all (more_declarations (signature ns t) ds) z h o = let g = ⊎_elim (λ a. own_low k all ds z h a) (λ a. absurd a) (among-cases z (node_names k all ds) [] o) in omega (arith, g)
own_low k all (more_declarations (clause n ps r) ds) z h o =
    let g = ⊎_elim (λ a. own_low k all ds z h a) (λ a. absurd (clause_own (is_continued n.text ps ds) (is_some (signature_of n.text all)) (variable_of n) z h a)) (among-cases z (node_names k all ds) _ o) in omega (arith, g)
own_low k all (more_declarations (pattern_binding l c p r) ds) z h o =
    ⊎_elim (λ a. let g = own_low k all ds z h a in omega (arith, g))
    (λ a. ⊎_elim (λ b. absurd (not_own z (pattern_variables p) b h)) (λ b. ⊎_elim (λ e. let q : own_number z ≡ declaration_count ds = ap own_number e in omega (arith, q)) (λ x. absurd x) b) (among-cases z (map identifier (pattern_variables p)) (binding k.home (declaration_count ds) ∷ []) a))
    (among-cases z (node_names k all ds) (map identifier (pattern_variables p) ++ binding k.home (declaration_count ds) ∷ []) o)

in_both : (zs us : List Identifier) (i j : ℕ) (z : Identifier) → (slice_get zs i ≡ Some z → slice_get zs j ≡ Some z → i ≡ j) → ((p q : ℕ) → slice_get us p ≡ Some z → slice_get us q ≡ Some z → p ≡ q) → ((p q : ℕ) → slice_get zs p ≡ Some z → slice_get us q ≡ Some z → ⊥) →
    slice_get (zs ++ us) i ≡ Some z → slice_get (zs ++ us) j ≡ Some z → i ≡ j
in_both zs us i j z f g h a b = ⊎_elim
    (λ c. ⊎_elim (λ d. f c d) (λ d. absurd (h i d.0 c d.2)) (get_cases zs us j z b))
    (λ c. ⊎_elim (λ d. absurd (h j c.0 d c.2)) (λ d. c.1 ∙ (ap (λ p. length zs + p) (g c.0 d.0 c.2 d.2) ∙ sym d.1)) (get_cases zs us j z b))
    (get_cases zs us i z a)

pub own_once : (k : Known) (all ds : Declarations) (i j : ℕ) (z : Identifier) → IsOwnName z → slice_get (node_names k all ds) i ≡ Some z → slice_get (node_names k all ds) j ≡ Some z → i ≡ j
own_once k all no_declarations i j z h a b = absurd_none a
own_once k all (more_declarations (data_declaration n ps cs) ds) i j z h a b = in_both (node_names k all ds) [] i j z (λ c d. own_once k all ds i j z h c d) (λ p q c d. absurd_none c) (λ p q c d. absurd_none d) a b
own_once k all (more_declarations (newtype_declaration n ps c) ds) i j z h a b = in_both (node_names k all ds) [] i j z (λ c d. own_once k all ds i j z h c d) (λ p q c d. absurd_none c) (λ p q c d. absurd_none d) a b
own_once k all (more_declarations (synonym_declaration n ps t) ds) i j z h a b = in_both (node_names k all ds) [] i j z (λ c d. own_once k all ds i j z h c d) (λ p q c d. absurd_none c) (λ p q c d. absurd_none d) a b
own_once k all (more_declarations (signature ns t) ds) i j z h a b = in_both (node_names k all ds) [] i j z (λ c d. own_once k all ds i j z h c d) (λ p q c d. absurd_none c) (λ p q c d. absurd_none d) a b
own_once k all (more_declarations (clause n ps r) ds) i j z h a b =
    in_both (node_names k all ds) _ i j z (λ c d. own_once k all ds i j z h c d)
    (λ p q c d. absurd (clause_own (is_continued n.text ps ds) (is_some (signature_of n.text all)) (variable_of n) z h (at_place z _ p c)))
    (λ p q c d. clause_own (is_continued n.text ps ds) (is_some (signature_of n.text all)) (variable_of n) z h (at_place z _ q d)) a b
own_once k all (more_declarations (pattern_binding l c p r) ds) i j z h a b =
    in_both (node_names k all ds) (map identifier (pattern_variables p) ++ binding k.home (declaration_count ds) ∷ []) i j z (λ c d. own_once k all ds i j z h c d)
    (λ u v c d. (last_own (pattern_variables p) (binding k.home (declaration_count ds)) u z h c).0 ∙ sym (last_own (pattern_variables p) (binding k.home (declaration_count ds)) v z h d).0)
    (λ u v c d.
    let e : own_number z ≡ declaration_count ds = ap own_number (last_own (pattern_variables p) (binding k.home (declaration_count ds)) v z h d).1 in
    let g = own_low k all ds z h (at_place z (node_names k all ds) u c) in omega (arith, e, g)) a b

module _ (k : Known) (all : Declarations) (once : (x : Variable) (i j : ℕ) → slice_get (list_nodes all all) i ≡ Some (Some x) → slice_get (list_nodes all all) j ≡ Some (Some x) → i ≡ j) (distinct : IsDistinct (typed.names (bindings_of k all all))) where
  abbrev V : List (Option Variable)
  V = list_nodes all all

  abbrev Z : List Identifier
  Z = node_names k all all

  abbrev D : typed.Bindings
  D = bindings_of k all all

  fits : AllFit (list_nodes all all) (node_names k all all)
  fits = names_fit k all all

  pub unique : (i j : ℕ) (z : Identifier) → slice_get Z i ≡ Some z → slice_get Z j ≡ Some z → i ≡ j
  unique i j z a b = ⊎_elim
      (λ v. ⊎_elim
      (λ w. once v.0 i j v.1 (w.1 ∙ ap (λ y. Some (Some y)) (identifier_injective w.0 v.0 (sym w.2 ∙ v.2))))
      (λ o. absurd (own_is v.0.qualifier v.0.text (subst IsOwnName v.2 o)))
      (fit_back V Z j z fits b))
      (λ o. own_once k all all i j z o a b)
      (fit_back V Z i z fits a)

  no_signed : (j : ℕ) (x : Identifier) → slice_get Z j ≡ Some x → ¬ (IsSigned x D)
  no_signed j x e s = one_kind D distinct x s ((names_unsigned k all all x).0 (at_place x Z j e))

  -- the nodes of declarations that end the list
  abbrev pub Within : Declarations → Type 0
  Within ds = (j : ℕ) (z : Identifier) → slice_get (node_names k all ds) j ≡ Some z → slice_get Z j ≡ Some z

  within_rest : (d : Declaration) (ds : Declarations) → Within (more_declarations d ds) → Within ds
  within_rest d ds w j z e = w j z (get_append (node_names k all ds) _ j z e)

  -- an edge is a reference
  abbrev pub Refers_ : Declarations → ℕ → ℕ → Type 0
  Refers_ ds i j = (x : Identifier) × (y : Identifier) × (slice_get Z i ≡ Some x) × (slice_get Z j ≡ Some y) × BindingMentions x y (bindings_of k all ds)

  pub edge_sound : (ds : Declarations) → Within ds → (i j : ℕ) → ListEdge all V ds i j → Refers_ ds i j
  edge_sound no_declarations w i j e = absurd e
  edge_sound (more_declarations (data_declaration n ps cs) ds) w i j e = ⊎_elim (λ h. absurd_none h.1) (λ h. edge_sound ds (within_rest (data_declaration n ps cs) ds w) i j h) e
  edge_sound (more_declarations (newtype_declaration n ps c) ds) w i j e = ⊎_elim (λ h. absurd_none h.1) (λ h. edge_sound ds (within_rest (newtype_declaration n ps c) ds w) i j h) e
  edge_sound (more_declarations (synonym_declaration n ps t) ds) w i j e = ⊎_elim (λ h. absurd_none h.1) (λ h. edge_sound ds (within_rest (synonym_declaration n ps t) ds w) i j h) e
  edge_sound (more_declarations (signature ns t) ds) w i j e = ⊎_elim (λ h. absurd_none h.1) (λ h. edge_sound ds (within_rest (signature ns t) ds w) i j h) e
  edge_sound (more_declarations (clause n ps r) ds) w i j e = ⊎_elim
      (λ h. ⊎_elim
      (λ g.
      let f = owner_first k all (more_declarations (clause n ps r) ds) h.0 h.1 in
      let v = g.1.variable in (
        f.0,
        identifier v,
        subst (λ q. slice_get Z q ≡ Some f.0) (sym g.0) (w h.0 f.0 f.1),
        fit_variable V Z j v fits g.1.node,
        (clause_binding (is_continued n.text ps ds) f.0 (identifier v) (identifier (variable_of n)) (signature_of n.text all) (patterns_of k ps) (right_sides_of k r) (where_of k r) (bindings_of k all ds) (begins k all ds n.text ps)).1
            (inl (f.2, ((λ a. g.1.holds.0 ((patterns_among k v ps).0 a)), (right_side_same k v r).1 g.1.holds.1))),
      ))
      (λ g. absurd g)
      h.2)
      (λ h.
      let s = edge_sound ds (within_rest (clause n ps r) ds w) i j h in (
        s.0,
        s.1,
        s.2,
        s.3,
        (clause_binding (is_continued n.text ps ds) s.0 s.1 (identifier (variable_of n)) (signature_of n.text all) (patterns_of k ps) (right_sides_of k r) (where_of k r) (bindings_of k all ds) (begins k all ds n.text ps)).1 (inr s.4),
      ))
      e
  edge_sound (more_declarations (pattern_binding l c p r) ds) w i j e = ⊎_elim
      (λ h.
      let own = binding k.home (declaration_count ds) in
      let at : slice_get Z h.0 ≡ Some (binding k.home (declaration_count ds)) = subst (λ q. slice_get Z q ≡ Some (binding k.home (declaration_count ds))) (some_injective h.1) (w _ _ (own_place k all ds p (binding k.home (declaration_count ds)))) in
      let here : IsOneOf (binding k.home (declaration_count ds)) (typed.matched_names (binding k.home (declaration_count ds)) (pattern_of k p)) = among-right (binding k.home (declaration_count ds)) (typed.pattern_names (pattern_of k p)) (binding k.home (declaration_count ds) ∷ []) (inl refl) in
      ⊎_elim
      (λ g. (
        binding k.home (declaration_count ds),
        identifier g.1.variable,
        subst (λ q. slice_get Z q ≡ Some (binding k.home (declaration_count ds))) (sym g.0) at,
        fit_variable V Z j g.1.variable fits g.1.node,
        inl (here, inr (inl ((λ o. o), (right_side_same k g.1.variable r).1 g.1.holds))),
      ))
      (λ g. ⊎_elim
      (λ s. (
        binding k.home (declaration_count ds),
        identifier s.1.variable,
        subst (λ q. slice_get Z q ≡ Some (binding k.home (declaration_count ds))) (sym s.0) at,
        fit_variable V Z j s.1.variable fits s.1.node,
        inl (here, inl (among-left (identifier s.1.variable) (typed.pattern_names (pattern_of k p)) (binding k.home (declaration_count ds) ∷ []) ((pattern_among k s.1.variable p).1 s.1.holds))),
      ))
      (λ s. (
        identifier s.1.variable,
        binding k.home (declaration_count ds),
        fit_variable V Z i s.1.variable fits s.1.node,
        subst (λ q. slice_get Z q ≡ Some (binding k.home (declaration_count ds))) (sym s.0) at,
        inl (among-left (identifier s.1.variable) (typed.pattern_names (pattern_of k p)) (binding k.home (declaration_count ds) ∷ []) ((pattern_among k s.1.variable p).1 s.1.holds), inl here),
      ))
      g)
      h.2)
      (λ h. let s = edge_sound ds (within_rest (pattern_binding l c p r) ds w) i j h in (s.0, s.1, s.2, s.3, inr s.4))
      e

  -- a reference is a path of edges
  abbrev pub Leads : Declarations → ℕ → ℕ → Type 0
  Leads ds i j = (i ≡ j) ⊎ Closure (ListEdge all V ds) i j

  leads_up : (d : Declaration) (ds : Declarations) (i j : ℕ) → Leads ds i j → Leads (more_declarations d ds) i j
  leads_up d ds i j l = ⊎_elim inl (λ p. inr (lift (λ x y e. inr e) p)) l

  then_ : (ds : Declarations) (i o j : ℕ) → Leads ds i o → Leads ds o j → Leads ds i j
  then_ ds i o j a b = ⊎_elim
      (λ e. subst (λ q. Leads ds q j) (sym e) b)
      (λ p. ⊎_elim (λ e. inr (subst (Closure (ListEdge all V ds) i) e p)) (λ q. inr (join p q)) b)
      a

  -- what an own node leads to
  to_mentioned : (r : RightSide) (j : ℕ) (y : Identifier) → slice_get Z j ≡ Some y → (IsOwnName y → ⊥) → ((v : Variable) → y ≡ identifier v → RightSideRefers v r) → IsNodeWith V (λ v. RightSideRefers v r) j
  to_mentioned r j y e n f = ⊎_elim (λ h. record { variable = h.0; node = h.1; holds = f h.0 h.2 }) (λ o. absurd (n o)) (fit_back V Z j y fits e)

  to_variable : (p : Pattern) (j : ℕ) (y : Identifier) → slice_get Z j ≡ Some y → IsOneOf y (typed.pattern_names (pattern_of k p)) → IsNodeWith V (λ v. IsOneOf v (pattern_variables p)) j
  to_variable p j y e o = ⊎_elim
      (λ h. record { variable = h.0; node = h.1; holds = (pattern_among k h.0 p).0 (subst (λ z. IsOneOf z (typed.pattern_names (pattern_of k p))) h.2 o) })
      (λ own. absurd (not_own y (pattern_variables p) (subst (λ zs. IsOneOf y zs) (pattern_same k p) o) own))
      (fit_back V Z j y fits e)

  pub edge_back : (ds : Declarations) → Within ds → ((x : Identifier) → IsSigned x (bindings_of k all ds) → IsSigned x D) → (i j : ℕ) (x y : Identifier) → slice_get Z i ≡ Some x → slice_get Z j ≡ Some y → BindingMentions x y (bindings_of k all ds) → Leads ds i j
  edge_back no_declarations w u i j x y a b m = absurd m
  edge_back (more_declarations (data_declaration n ps cs) ds) w u i j x y a b m = leads_up (data_declaration n ps cs) ds i j (edge_back ds (within_rest (data_declaration n ps cs) ds w) u i j x y a b m)
  edge_back (more_declarations (newtype_declaration n ps c) ds) w u i j x y a b m = leads_up (newtype_declaration n ps c) ds i j (edge_back ds (within_rest (newtype_declaration n ps c) ds w) u i j x y a b m)
  edge_back (more_declarations (synonym_declaration n ps t) ds) w u i j x y a b m = leads_up (synonym_declaration n ps t) ds i j (edge_back ds (within_rest (synonym_declaration n ps t) ds w) u i j x y a b m)
  edge_back (more_declarations (signature ns t) ds) w u i j x y a b m = leads_up (signature ns t) ds i j (edge_back ds (within_rest (signature ns t) ds w) u i j x y a b m)
  edge_back (more_declarations (clause n ps r) ds) w u i j x y a b m = ⊎_elim
      (λ h. ⊎_elim
      (λ s. absurd (no_signed i x a (u x s)))
      (λ o.
      let f = owner_first k all (more_declarations (clause n ps r) ds) o.0 o.1 in
      let same : f.0 ≡ x = first_once (bindings_of k all (more_declarations (clause n ps r) ds)) f.0 x f.2 h.0 in
      let at : i ≡ o.0 = unique i o.0 x a (subst (λ q. slice_get Z o.0 ≡ Some q) same (w o.0 f.0 f.1)) in
      let node : IsNodeWith V (λ v. ¬ (IsOneOf v (patterns_variables ps)) × RightSideRefers v r) j =
      ⊎_elim
      (λ g. record { variable = g.0; node = g.1; holds = ((λ q. h.1.0 (subst (λ z. IsOneOf z (typed.patterns_names (patterns_of k ps))) (sym g.2) ((patterns_among k g.0 ps).1 q))), (right_side_same k g.0 r).0 (subst (λ z. ¬ (IsOneOf z (typed.names (where_of k r))) × (Rattle.hm_typing.specs.Mentions.RightSidesMention z (right_sides_of k r) ⊎ Rattle.hm_typing.specs.Mentions.BindingsMention z (where_of k r))) g.2 h.1.1)) })
      (λ own. absurd (never_right k y own r h.1.1.1))
      (fit_back V Z j y fits b) in
      inr (one (inl (o.0, o.1, inl (at, node)))))
      (head_owner k all (more_declarations (clause n ps r) ds) x tt h.0))
      (λ h. leads_up (clause n ps r) ds i j (edge_back ds (within_rest (clause n ps r) ds w) (λ z s. u z (signed_up k all (clause n ps r) ds z s)) i j x y a b h))
      ((clause_binding (is_continued n.text ps ds) x y (identifier (variable_of n)) (signature_of n.text all) (patterns_of k ps) (right_sides_of k r) (where_of k r) (bindings_of k all ds) (begins k all ds n.text ps)).0 m)
  edge_back (more_declarations (pattern_binding l c p r) ds) w u i j x y a b m = ⊎_elim
      (λ h. then_ (more_declarations (pattern_binding l c p r) ds) i (length (list_nodes all ds) + length (pattern_variables p)) j (to_own h.0) (⊎_elim (λ q. from_name q) (λ q. from_mention q) h.1))
      (λ h. leads_up (pattern_binding l c p r) ds i j (edge_back ds (within_rest (pattern_binding l c p r) ds w) u i j x y a b h))
      m
    where
      at_own : slice_get Z (length (list_nodes all ds) + length (pattern_variables p)) ≡ Some (binding k.home (declaration_count ds))
      at_own = w _ _ (own_place k all ds p (binding k.home (declaration_count ds)))

      to_own : IsOneOf x (typed.matched_names (binding k.home (declaration_count ds)) (pattern_of k p)) → Leads (more_declarations (pattern_binding l c p r) ds) i (length (list_nodes all ds) + length (pattern_variables p))
      to_own q = ⊎_elim
          (λ v. inr (one (inl (length (list_nodes all ds) + length (pattern_variables p), refl, inr (inr (refl, to_variable p i x a v))))))
          (λ e. ⊎_elim (λ s. inl (unique i _ x a (subst (λ z. slice_get Z (length (list_nodes all ds) + length (pattern_variables p)) ≡ Some z) (sym s) at_own))) (λ z. absurd z) e)
          (among-cases x (typed.pattern_names (pattern_of k p)) (binding k.home (declaration_count ds) ∷ []) q)

      from_name : IsOneOf y (typed.matched_names (binding k.home (declaration_count ds)) (pattern_of k p)) → Leads (more_declarations (pattern_binding l c p r) ds) (length (list_nodes all ds) + length (pattern_variables p)) j
      from_name q = ⊎_elim
          (λ v. inr (one (inl (length (list_nodes all ds) + length (pattern_variables p), refl, inr (inl (refl, to_variable p j y b v))))))
          (λ e. ⊎_elim (λ s. inl (unique _ j y (subst (λ z. slice_get Z (length (list_nodes all ds) + length (pattern_variables p)) ≡ Some z) (sym s) at_own) b)) (λ z. absurd z) e)
          (among-cases y (typed.pattern_names (pattern_of k p)) (binding k.home (declaration_count ds) ∷ []) q)

      from_mention : ClausesMention y (typed.clause typed.no_pattern (right_sides_of k r) (where_of k r) typed.no_clause) → Leads (more_declarations (pattern_binding l c p r) ds) (length (list_nodes all ds) + length (pattern_variables p)) j
      from_mention q = ⊎_elim
          (λ g. inr (one (inl (
            length (list_nodes all ds) + length (pattern_variables p),
            refl,
            inl (
              refl,
              to_mentioned r j y b (λ own. never_right k y own r g.1.1)
                  (λ v e. (right_side_same k v r).0 (subst (λ z. ¬ (IsOneOf z (typed.names (where_of k r))) × (Rattle.hm_typing.specs.Mentions.RightSidesMention z (right_sides_of k r) ⊎ Rattle.hm_typing.specs.Mentions.BindingsMention z (where_of k r))) e g.1)),
            ),
          ))))
          (λ z. absurd z)
          q

  module _ (graph : Graph) (is_graph : IsGraphOf all graph) where
    named : (i : ℕ) (x : Identifier) → slice_get Z i ≡ Some x → node_name k all i ≡ x
    named i x e = get_or_from_slice_get Z i x (local []) e

    edge_there : (i j : ℕ) → Edge graph i j → RefersTo D (node_name k all i) (node_name k all j)
    edge_there i j e =
        let s = edge_sound all (λ j z h. h) i j ((is_graph.edges i j).0 e) in (
          subst (λ z. BindingMentions z (node_name k all j) D) (sym (named i s.0 s.2)) (subst (λ z. BindingMentions s.0 z D) (sym (named j s.1 s.3)) s.4),
          subst (λ z. IsUnsigned z D) (sym (named j s.1 s.3)) ((names_unsigned k all all s.1).0 (at_place s.1 Z j s.3)),
        )

    there : (i j : ℕ) → Closure (Edge graph) i j → Reaches D (node_name k all i) (node_name k all j)
    there i j (one e) = directly (edge_there i j e)
    there i j (more {b = b} p e) = Reaches-trans D (there i b p) (directly (edge_there b j e))

    back : {x y : Identifier} (i j : ℕ) → slice_get Z i ≡ Some x → slice_get Z j ≡ Some y → Reaches D x y → (i ≡ j) ⊎ Closure (Edge graph) i j
    back {x = x} {y = y} i j a b (directly r) = ⊎_elim inl (λ p. inr (lift (λ u v e. (is_graph.edges u v).1 e) p)) (edge_back all (λ j z h. h) (λ z s. s) i j x y a b r.0)
    back {x = x} {y = y} i j a b (through {y = z} r p) =
        let m = place_of z Z ((names_unsigned k all all z).1 r.1) in
        ⊎_elim
        (λ e. subst (λ q. (q ≡ j) ⊎ Closure (Edge graph) q j) (sym e) (back m.0 j m.1 b p))
        (λ q. ⊎_elim (λ e. inr (subst (Closure (Edge graph) i) e (lift (λ u v e. (is_graph.edges u v).1 e) q))) (λ t. inr (join (lift (λ u v e. (is_graph.edges u v).1 e) q) t)) (back m.0 j m.1 b p))
        (edge_back all (λ j z h. h) (λ z s. s) i m.0 x z a m.1 r.0)

    long : length (list_nodes all all) ≡ length (node_names k all all)
    long = fit_length V Z fits

    at_number : (i : ℕ) → i < length (list_nodes all all) → slice_get (node_names k all all) i ≡ Some (node_name k all i)
    at_number i l = slice_get-get_or Z i (local []) (subst (λ m. i < m) long l)

    pub are_numbered : (groups : List (List ℕ)) → AreGroups graph groups → AreNumberedGroups (bindings_of k all all) (node_name k all) (length (list_nodes all all)) groups
    are_numbered groups are = record {
      unsigned_names = λ i l. (names_unsigned k all all (node_name k all i)).0 (at_place (node_name k all i) Z i (at_number i l));
      named = λ x u. (let p = place_of x Z ((names_unsigned k all all x).1 u) in (p.0, subst (λ m. p.0 < m) (sym long) (slice_get_within Z p.0 x p.1), sym (named p.0 x p.1)));
      one_number = λ i j l m e. unique i j (node_name k all i) (at_number i l) (at_number j m ∙ ap Some (sym e));
      all = numbered_all graph groups are D (node_name k all) (length V) is_graph.size (λ i j l m p. there i j p) (λ i j l m p. back i j (at_number i l) (at_number j m) p);
      in_order = numbered_in_order graph groups are D (node_name k all) (length V) is_graph.size (λ i j l m p. there i j p) (λ i j l m p. back i j (at_number i l) (at_number j m) p);
    }
