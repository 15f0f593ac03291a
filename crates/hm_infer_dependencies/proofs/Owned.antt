-- The declarations of a list, by their places and the nodes that they belong to.
use Rattle.std.proofs.Common.{◌≡◌, ℕ, zero, suc, ◌+◌, ◌-◌, ◌≤◌, Bool, true, false, cond, List, [], ◌∷◌, ◌++◌, map, drop, length, Option, Some, None, is_some, refl, sym, ap, ◌∙◌, subst, ◌↔◌, arith}
use Rattle.std.specs.List.{slice_get}
use Rattle.std.proofs.lemmas.List.{length-map}
use Rattle.hm_typing.specs.Names.{Identifier, binding}
use Rattle.hm_typing.specs.Schemes.{Monotype}
use Rattle.hm_typing.specs.Assumptions.{Assumptions}
use Rattle.hm_typing.specs.Syntax as typed
use Rattle.hm_syntax.specs.Trees.{Pattern, Patterns, Declaration, data_declaration, newtype_declaration, synonym_declaration, signature, clause, pattern_binding, Declarations, no_declarations, more_declarations}
use Rattle.hm_syntax.specs.Lists.{declarations}
use Rattle.hm_names.specs.Syntax.{Known, pattern_of, patterns_of, right_sides_of, where_of, bindings_of, is_continued, signature_of, add_clause, bound_by, declaration_count}
use Rattle.hm_names_keys.specs.Variables.{variable_of, identifier}
use Rattle.hm_infer_dependencies.specs.References.{pattern_variables}
use Rattle.hm_infer_dependencies.specs.Nodes.{list_nodes, owner}
use Rattle.hm_infer_dependencies.specs.Groups.{node_names}
use Rattle.hm_infer_dependencies.specs.Checked.{BeginsUnsigned, OneHas, DeclarationsHave}
use Rattle.hm_names_keys.proofs.Pushed.{some_injective, get-push_new}
use Rattle.hm_infer_dependencies.proofs.Mentioned.{pattern_same}
use Rattle.hm_infer_dependencies.proofs.Reached.{get_append, own_place, HeadIsClause, head_continued, names_long}

absurd_none : {X Y : Type 0} {a : X} → None ≡ Some a → Y
absurd_none h = cc

-- the names of the last declarations are the first of all

pub names_up : (k : Known) (all : Declarations) (decls : List Declaration) (i j : ℕ) (z : Identifier) → slice_get (node_names k all (declarations (drop i decls))) j ≡ Some z → slice_get (node_names k all (declarations decls)) j ≡ Some z
names_up k all decls zero j z e = e
names_up k all [] (suc i) j z e = e
names_up k all (d ∷ decls) (suc i) j z e = get_append (node_names k all (declarations decls)) _ j z (names_up k all decls i j z e)

-- clauses

begins_add : (x : Identifier) (c : typed.Clauses → typed.Clauses) (rest : typed.Bindings) → BeginsUnsigned x (add_clause c rest) ↔ BeginsUnsigned x rest
begins_add x c typed.no_binding = ((λ h. h), (λ h. h))
begins_add x c (typed.unsigned z cs ds) = ((λ h. h), (λ h. h))
begins_add x c (typed.signed z s cs ds) = ((λ h. h), (λ h. h))
begins_add x c (typed.matched z p cs ds) = ((λ h. h), (λ h. h))

clause_begins : (b : Bool) (o : Option Monotype) (behind : Option ℕ) (zs : List Identifier) (count j : ℕ) (n : Identifier) (c : typed.Clauses → typed.Clauses) (cs : typed.Clauses) (rest : typed.Bindings) → count ≡ length zs →
    (b ≡ true → behind ≡ Some j → (x : Identifier) × (slice_get zs j ≡ Some x) × BeginsUnsigned x rest) → cond b behind (cond (is_some o) None (Some count)) ≡ Some j →
    (x : Identifier) × (slice_get (zs ++ cond b [] (cond (is_some o) [] (n ∷ []))) j ≡ Some x) × BeginsUnsigned x (cond b (add_clause c rest) (bound_by n o cs rest))
clause_begins true o behind zs count j n c cs rest e f h = let g = f refl h in (g.0, get_append zs [] j g.0 g.1, (begins_add g.0 c rest).1 g.2)
clause_begins false (Some s) behind zs count j n c cs rest e f h = absurd_none h
clause_begins false None behind zs count j n c cs rest e f h = (n, subst (λ i. slice_get (zs ++ n ∷ []) i ≡ Some n) (sym e ∙ some_injective h) (get-push_new zs n), refl)

-- the binding that a clause with an owner begins has the owner's name
pub owner_begins : (k : Known) (all ds : Declarations) (j : ℕ) → HeadIsClause ds → owner all ds ≡ Some j → (x : Identifier) × (slice_get (node_names k all ds) j ≡ Some x) × BeginsUnsigned x (bindings_of k all ds)
owner_begins k all no_declarations j h e = absurd h
owner_begins k all (more_declarations (data_declaration n ps cs) ds) j h e = absurd h
owner_begins k all (more_declarations (newtype_declaration n ps c) ds) j h e = absurd h
owner_begins k all (more_declarations (synonym_declaration n ps t) ds) j h e = absurd h
owner_begins k all (more_declarations (signature ns t) ds) j h e = absurd h
owner_begins k all (more_declarations (clause n ps r) ds) j h e =
    clause_begins (is_continued n.text ps ds) (signature_of n.text all) (owner all ds) (node_names k all ds) (length (list_nodes all ds)) j (identifier (variable_of n)) (λ cs. typed.clause (patterns_of k ps) (right_sides_of k r) (where_of k r) cs) (typed.clause (patterns_of k ps) (right_sides_of k r) (where_of k r) typed.no_clause) (bindings_of k all ds) (names_long k all ds)
    (λ b g. owner_begins k all ds j (head_continued n.text ps ds b) g) e
owner_begins k all (more_declarations (pattern_binding l c p r) ds) j h e = absurd h

clause_owned : (b : Bool) (o : Option Monotype) (behind : Option ℕ) (zs : List Identifier) (count : ℕ) (x n : Identifier) (c : typed.Clauses → typed.Clauses) (cs : typed.Clauses) (rest : typed.Bindings) → count ≡ length zs →
    (b ≡ true → BeginsUnsigned x rest → (j : ℕ) × (behind ≡ Some j) × (slice_get zs j ≡ Some x)) → BeginsUnsigned x (cond b (add_clause c rest) (bound_by n o cs rest)) →
    (j : ℕ) × (cond b behind (cond (is_some o) None (Some count)) ≡ Some j) × (slice_get (zs ++ cond b [] (cond (is_some o) [] (n ∷ []))) j ≡ Some x)
clause_owned true o behind zs count x n c cs rest e f h = let g = f refl ((begins_add x c rest).0 h) in (g.0, g.1, get_append zs [] g.0 x g.2)
clause_owned false (Some s) behind zs count x n c cs rest e f h = absurd h
clause_owned false None behind zs count x n c cs rest e f h = (count, refl, subst (λ i. slice_get (zs ++ n ∷ []) i ≡ Some x) (sym e) (get-push_new zs n ∙ ap Some (sym h)))

pub begins_owned : (k : Known) (all ds : Declarations) (x : Identifier) → HeadIsClause ds → BeginsUnsigned x (bindings_of k all ds) → (j : ℕ) × (owner all ds ≡ Some j) × (slice_get (node_names k all ds) j ≡ Some x)
begins_owned k all no_declarations x h b = absurd h
begins_owned k all (more_declarations (data_declaration n ps cs) ds) x h b = absurd h
begins_owned k all (more_declarations (newtype_declaration n ps c) ds) x h b = absurd h
begins_owned k all (more_declarations (synonym_declaration n ps t) ds) x h b = absurd h
begins_owned k all (more_declarations (signature ns t) ds) x h b = absurd h
begins_owned k all (more_declarations (clause n ps r) ds) x h b =
    clause_owned (is_continued n.text ps ds) (signature_of n.text all) (owner all ds) (node_names k all ds) (length (list_nodes all ds)) x (identifier (variable_of n)) (λ cs. typed.clause (patterns_of k ps) (right_sides_of k r) (where_of k r) cs) (typed.clause (patterns_of k ps) (right_sides_of k r) (where_of k r) typed.no_clause) (bindings_of k all ds) (names_long k all ds)
    (λ c g. begins_owned k all ds x (head_continued n.text ps ds c) g) b
begins_owned k all (more_declarations (pattern_binding l c p r) ds) x h b = absurd h

-- the nodes of a pattern binding

get_within : {X : Type 0} (zs us vs : List X) (q : ℕ) (x : X) → slice_get us q ≡ Some x → slice_get (zs ++ (us ++ vs)) (length zs + q) ≡ Some x
get_within [] [] vs q x e = absurd_none e
get_within [] (u ∷ us) vs q x e = let n : q ≡ 0 + q = omega arith in subst (λ i. slice_get ((u ∷ us) ++ vs) i ≡ Some x) n (first (u ∷ us) q e)
  where
    first : (ws : List _) (i : ℕ) → slice_get ws i ≡ Some x → slice_get (ws ++ vs) i ≡ Some x
    first [] i f = absurd_none f
    first (w ∷ ws) zero f = f
    first (w ∷ ws) (suc i) f = first ws i f
get_within (z ∷ zs) us vs q x e = let n : suc (length zs + q) ≡ length (z ∷ zs) + q = omega arith in subst (λ i. slice_get ((z ∷ zs) ++ (us ++ vs)) i ≡ Some x) n (get_within zs us vs q x e)

-- where the variables of a pattern binding stand: right before its own node
pub variables_before : (k : Known) (all ds : Declarations) (l c : ℕ) (p : Pattern) (r : Rattle.hm_syntax.specs.Trees.RightSide) (own : ℕ) → owner all (more_declarations (pattern_binding l c p r) ds) ≡ Some own → (q : ℕ) (x : Identifier) → slice_get (typed.pattern_names (pattern_of k p)) q ≡ Some x →
    (length (typed.pattern_names (pattern_of k p)) ≤ own) × (slice_get (node_names k all (more_declarations (pattern_binding l c p r) ds)) (own - length (typed.pattern_names (pattern_of k p)) + q) ≡ Some x)
variables_before k all ds l c p r own e q x f =
    let many : length (typed.pattern_names (pattern_of k p)) ≡ length (pattern_variables p) = ap length (pattern_same k p) ∙ length-map (pattern_variables p) identifier in
    let long = names_long k all ds in
    let at : length (list_nodes all ds) + length (pattern_variables p) ≡ own = some_injective e in (
      omega (arith, many, at),
      subst (λ i. slice_get (node_names k all ds ++ (map identifier (pattern_variables p) ++ binding k.home (declaration_count ds) ∷ [])) i ≡ Some x) (place many long at)
          (get_within (node_names k all ds) (map identifier (pattern_variables p)) (binding k.home (declaration_count ds) ∷ []) q x (subst (λ zs. slice_get zs q ≡ Some x) (pattern_same k p) f)),
    )
  where
    place : length (typed.pattern_names (pattern_of k p)) ≡ length (pattern_variables p) → length (list_nodes all ds) ≡ length (node_names k all ds) → length (list_nodes all ds) + length (pattern_variables p) ≡ own →
        length (node_names k all ds) + q ≡ own - length (typed.pattern_names (pattern_of k p)) + q
    place many long at = omega arith

pub few_before : (k : Known) (all ds : Declarations) (l c : ℕ) (p : Pattern) (r : Rattle.hm_syntax.specs.Trees.RightSide) (own : ℕ) → owner all (more_declarations (pattern_binding l c p r) ds) ≡ Some own → length (typed.pattern_names (pattern_of k p)) ≤ own
few_before k all ds l c p r own e =
    let many : length (typed.pattern_names (pattern_of k p)) ≡ length (pattern_variables p) = ap length (pattern_same k p) ∙ length-map (pattern_variables p) identifier in
    let at : length (list_nodes all ds) + length (pattern_variables p) ≡ own = some_injective e in
    omega (arith, many, at)

pub own_name_at : (k : Known) (all ds : Declarations) (l c : ℕ) (p : Pattern) (r : Rattle.hm_syntax.specs.Trees.RightSide) (own : ℕ) → owner all (more_declarations (pattern_binding l c p r) ds) ≡ Some own → slice_get (node_names k all (more_declarations (pattern_binding l c p r) ds)) own ≡ Some (binding k.home (declaration_count ds))
own_name_at k all ds l c p r own e = subst (λ i. slice_get (node_names k all (more_declarations (pattern_binding l c p r) ds)) i ≡ Some (binding k.home (declaration_count ds))) (some_injective e) (own_place k all ds p (binding k.home (declaration_count ds)))

-- what a group asks, place by place

one_first : (g : Identifier → Bool) (C : Assumptions) (τ : Identifier → Monotype) (k : Known) (all : Declarations) (d : Declaration) (ds : Declarations) → DeclarationsHave g C τ k all (more_declarations d ds) ↔ (OneHas g C τ k all d ds × DeclarationsHave g C τ k all ds)
one_first g C τ k all (data_declaration n ps cs) ds = ((λ h. (tt, h)), (λ h. h.1))
one_first g C τ k all (newtype_declaration n ps c) ds = ((λ h. (tt, h)), (λ h. h.1))
one_first g C τ k all (synonym_declaration n ps t) ds = ((λ h. (tt, h)), (λ h. h.1))
one_first g C τ k all (signature ns t) ds = ((λ h. (tt, h)), (λ h. h.1))
one_first g C τ k all (clause n ps r) ds = ((λ h. h), (λ h. h))
one_first g C τ k all (pattern_binding l c p r) ds = ((λ h. h), (λ h. h))

pub have_places : (g : Identifier → Bool) (C : Assumptions) (τ : Identifier → Monotype) (k : Known) (all : Declarations) (decls : List Declaration) → ((i : ℕ) (d : Declaration) → slice_get decls i ≡ Some d → OneHas g C τ k all d (declarations (drop (suc i) decls))) → DeclarationsHave g C τ k all (declarations decls)
have_places g C τ k all [] f = tt
have_places g C τ k all (d ∷ decls) f =
    (one_first g C τ k all d (declarations decls)).1 (f zero d refl, have_places g C τ k all decls (λ i e h. f (suc i) e h))

pub have_at : (g : Identifier → Bool) (C : Assumptions) (τ : Identifier → Monotype) (k : Known) (all : Declarations) (decls : List Declaration) → DeclarationsHave g C τ k all (declarations decls) → (i : ℕ) (d : Declaration) → slice_get decls i ≡ Some d → OneHas g C τ k all d (declarations (drop (suc i) decls))
have_at g C τ k all [] h i d e = absurd_none e
have_at g C τ k all (d ∷ decls) h zero e f = subst (λ z. OneHas g C τ k all z (declarations decls)) (some_injective f) ((one_first g C τ k all d (declarations decls)).0 h).0
have_at g C τ k all (d ∷ decls) h (suc i) e f = have_at g C τ k all decls ((one_first g C τ k all d (declarations decls)).0 h).1 i e f

pub drop_at : (decls : List Declaration) (i : ℕ) (d : Declaration) → slice_get decls i ≡ Some d → drop i decls ≡ d ∷ drop (suc i) decls
drop_at [] i d e = absurd_none e
drop_at (x ∷ decls) zero d e = ap (λ z. z ∷ decls) (some_injective e)
drop_at (x ∷ decls) (suc i) d e = drop_at decls i d e
