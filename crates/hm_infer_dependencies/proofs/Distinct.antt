-- The names of a list are distinct exactly where its nodes are, all bindings being taken as without signatures.
use Rattle.std.proofs.Common.{◌≡◌, ℕ, zero, suc, ◌+◌, ◌<◌, Bool, true, false, cond, List, [], ◌∷◌, ◌++◌, map, length, Option, Some, None, Result, Ok, Err, IsErrAnd, ◌⊎◌, ⊎_elim, inl, inr, refl, sym, ap, ◌∙◌, subst, ◌↔◌, ◌-◌, drop, get_or, arith, append_assoc, true≢false}
use Rattle.std.proofs.lemmas.List.{map-append}
use Rattle.std.proofs.lemmas.Option.{slice_get_within}
use Rattle.hm_infer_dependencies.specs.declared.faults.GroupFault.{GroupFault}
use Rattle.hm_infer_dependencies.specs.declared.faults.GroupFault.TheVariants.{Repeated}
use Rattle.std.specs.List.{slice_get}
use Rattle.hm_typing.specs.Names.{Identifier, binding, IsOneOf, IsDistinct}
use Rattle.hm_typing.specs.Schemes.{Monotype}
use Rattle.hm_typing.specs.Syntax as typed
use Rattle.hm_typing.proofs.Matching.{distinct_rest, distinct_apart}
use Rattle.hm_syntax.specs.Lists.{declarations, patterns}
use Rattle.hm_syntax.specs.Trees.{Pattern, Declaration, data_declaration, newtype_declaration, synonym_declaration, signature, clause, pattern_binding, Declarations, no_declarations, more_declarations}
use Rattle.hm_names.specs.Syntax.{Known, patterns_of, right_sides_of, where_of, bindings_of, is_continued, signature_of, add_clause, bound_by, declaration_count}
use Rattle.hm_names_keys.specs.Variables.{Variable, variable_of, identifier}
use Rattle.hm_infer_dependencies.specs.References.{pattern_variables, patterns_variables}
use Rattle.hm_infer_dependencies.specs.Nodes.{is_signed, new_nodes, list_nodes, IsRepeated}
use Rattle.hm_infer_dependencies.specs.Groups.{new_names, node_names}
use Rattle.hm_infer_dependencies.proofs.Walking.{among-left, among-right, among-cases}
use Rattle.hm_infer_dependencies.specs.Numberings.{IsNode}
use Rattle.hm_names_keys.proofs.Pushed.{some_injective, get-push_new}
use Rattle.hm_infer_dependencies.proofs.Mentioned.{pattern_same}
use Rattle.hm_names_keys.proofs.Identifiers.{identifier_injective}
use Rattle.hm_infer_dependencies.proofs.Named.{IsOwnName, names_fit, fit_variable, fit_back, place_of, at_place}
use Rattle.hm_infer_dependencies.proofs.Reached.{own_is, get_append}
use Rattle.hm_infer_dependencies.proofs.Related.{own_once}
use Rattle.hm_infer_dependencies.proofs.Rows.{unrolled}
use Rattle.hm_infer_dependencies.proofs.NodeLists.{IsStep, nodes_step}

absurd_none : {X Y : Type 0} {a : X} → None ≡ Some a → Y
absurd_none h = cc

-- distinct lists

pub distinct_first : (xs ys : List Identifier) → IsDistinct (xs ++ ys) → IsDistinct xs
distinct_first [] ys d = tt
distinct_first (x ∷ xs) ys d = ((λ o. d.0 (among-left x xs ys o)), distinct_first xs ys d.1)

pub distinct_joined : (xs ys : List Identifier) → IsDistinct xs → IsDistinct ys → ((x : Identifier) → IsOneOf x xs → ¬ (IsOneOf x ys)) → IsDistinct (xs ++ ys)
distinct_joined [] ys d e f = e
distinct_joined (x ∷ xs) ys d e f = ((λ o. ⊎_elim d.0 (f x (inl refl)) (among-cases x xs ys o)), distinct_joined xs ys d.1 e (λ z o. f z (inr o)))

-- the order of two parts doesn't matter, nor that of their names
turned : (xs ys us vs : List Identifier) → ((x : Identifier) → IsOneOf x xs ↔ IsOneOf x us) → ((x : Identifier) → IsOneOf x ys ↔ IsOneOf x vs) → (IsDistinct xs → IsDistinct us) → (IsDistinct ys → IsDistinct vs) → IsDistinct (xs ++ ys) → IsDistinct (vs ++ us)
turned xs ys us vs f g h k d =
    distinct_joined vs us (k (distinct_rest xs ys d)) (h (distinct_first xs ys d)) (λ x o p. distinct_apart xs ys d x ((f x).1 p) ((g x).1 o))

pub distinct_places : (zs : List Identifier) (i j : ℕ) (z : Identifier) → IsDistinct zs → slice_get zs i ≡ Some z → slice_get zs j ≡ Some z → i ≡ j
distinct_places [] i j z d a b = absurd_none a
distinct_places (y ∷ zs) zero zero z d a b = refl
distinct_places (y ∷ zs) zero (suc j) z d a b = absurd (d.0 (subst (λ w. IsOneOf w zs) (sym (some_injective a)) (at_place z zs j b)))
distinct_places (y ∷ zs) (suc i) zero z d a b = absurd (d.0 (subst (λ w. IsOneOf w zs) (sym (some_injective b)) (at_place z zs i a)))
distinct_places (y ∷ zs) (suc i) (suc j) z d a b = ap suc (distinct_places zs i j z d.1 a b)

suc_one : (i j : ℕ) → suc i ≡ suc j → i ≡ j
suc_one i j e = omega arith

zero_not : (j : ℕ) → zero ≡ suc j → ⊥
zero_not j e = omega arith

pub places_distinct : (zs : List Identifier) → ((i j : ℕ) (z : Identifier) → slice_get zs i ≡ Some z → slice_get zs j ≡ Some z → i ≡ j) → IsDistinct zs
places_distinct [] f = tt
places_distinct (y ∷ zs) f = ((λ o. let p = place_of y zs o in zero_not p.0 (f zero (suc p.0) y refl p.1)), places_distinct zs (λ i j z a b. suc_one i j (f (suc i) (suc j) z a b)))

-- the names of nodes and of bindings

names_add : (c : typed.Clauses → typed.Clauses) (rest : typed.Bindings) → typed.names (add_clause c rest) ≡ typed.names rest
names_add c typed.no_binding = refl
names_add c (typed.unsigned x cs ds) = refl
names_add c (typed.signed x s cs ds) = refl
names_add c (typed.matched x p cs ds) = refl

names_bound : (n : Identifier) (o : Option Monotype) (cs : typed.Clauses) (rest : typed.Bindings) → typed.names (bound_by n o cs rest) ≡ n ∷ typed.names rest
names_bound n None cs rest = refl
names_bound n (Some s) cs rest = refl

new_clause : (b : Bool) (n : Identifier) (o : Option Monotype) (c : typed.Clauses → typed.Clauses) (cs : typed.Clauses) (rest : typed.Bindings) → typed.names (cond b (add_clause c rest) (bound_by n o cs rest)) ≡ cond b [] (n ∷ []) ++ typed.names rest
new_clause true n o c cs rest = names_add c rest
new_clause false n o c cs rest = names_bound n o cs rest

-- the names that a declaration adds where nothing has a signature
abbrev added : Known → Declaration → Declarations → List Identifier
added k (data_declaration n ps cs) ds = []
added k (newtype_declaration n ps c) ds = []
added k (synonym_declaration n ps t) ds = []
added k (signature ns t) ds = []
added k (clause n ps r) ds = cond (is_continued n.text ps ds) [] (identifier (variable_of n) ∷ [])
added k (pattern_binding l c p r) ds = map identifier (pattern_variables p) ++ binding k.home (declaration_count ds) ∷ []

names_of_bindings : (k : Known) (all : Declarations) (d : Declaration) (ds : Declarations) → typed.names (bindings_of k all (more_declarations d ds)) ≡ added k d ds ++ typed.names (bindings_of k all ds)
names_of_bindings k all (data_declaration n ps cs) ds = refl
names_of_bindings k all (newtype_declaration n ps c) ds = refl
names_of_bindings k all (synonym_declaration n ps t) ds = refl
names_of_bindings k all (signature ns t) ds = refl
names_of_bindings k all (clause n ps r) ds = new_clause (is_continued n.text ps ds) (identifier (variable_of n)) (signature_of n.text all) (λ cs. typed.clause (patterns_of k ps) (right_sides_of k r) (where_of k r) cs) (typed.clause (patterns_of k ps) (right_sides_of k r) (where_of k r) typed.no_clause) (bindings_of k all ds)
names_of_bindings k all (pattern_binding l c p r) ds = ap (λ zs. (zs ++ binding k.home (declaration_count ds) ∷ []) ++ typed.names (bindings_of k all ds)) (pattern_same k p)

names_of_nodes : (k : Known) (d : Declaration) (ds : Declarations) → node_names k no_declarations (more_declarations d ds) ≡ node_names k no_declarations ds ++ added k d ds
names_of_nodes k (data_declaration n ps cs) ds = refl
names_of_nodes k (newtype_declaration n ps c) ds = refl
names_of_nodes k (synonym_declaration n ps t) ds = refl
names_of_nodes k (signature ns t) ds = refl
names_of_nodes k (clause n ps r) ds = refl
names_of_nodes k (pattern_binding l c p r) ds = refl

pub same_members : (k : Known) (all ds : Declarations) (x : Identifier) → IsOneOf x (node_names k no_declarations ds) ↔ IsOneOf x (typed.names (bindings_of k all ds))
same_members k all no_declarations x = ((λ o. o), (λ o. o))
same_members k all (more_declarations d ds) x =
    let f = same_members k all ds x in (
      (λ o. subst (IsOneOf x) (sym (names_of_bindings k all d ds))
          (⊎_elim (λ a. among-right x (added k d ds) (typed.names (bindings_of k all ds)) (f.0 a)) (λ a. among-left x (added k d ds) (typed.names (bindings_of k all ds)) a)
          (among-cases x (node_names k no_declarations ds) (added k d ds) (subst (IsOneOf x) (names_of_nodes k d ds) o)))),
      (λ o. subst (IsOneOf x) (sym (names_of_nodes k d ds))
          (⊎_elim (λ a. among-right x (node_names k no_declarations ds) (added k d ds) a) (λ a. among-left x (node_names k no_declarations ds) (added k d ds) (f.1 a))
          (among-cases x (added k d ds) (typed.names (bindings_of k all ds)) (subst (IsOneOf x) (names_of_bindings k all d ds) o)))),
    )

flip : {P Q : Type 0} → P ↔ Q → Q ↔ P
flip f = (f.1, f.0)

pub distinct_there : (k : Known) (all ds : Declarations) → IsDistinct (node_names k no_declarations ds) → IsDistinct (typed.names (bindings_of k all ds))
distinct_there k all no_declarations d = tt
distinct_there k all (more_declarations d ds) h =
    subst IsDistinct (sym (names_of_bindings k all d ds))
    (turned (node_names k no_declarations ds) (added k d ds) (typed.names (bindings_of k all ds)) (added k d ds) (same_members k all ds) (λ x. ((λ o. o), (λ o. o))) (distinct_there k all ds) (λ g. g) (subst IsDistinct (names_of_nodes k d ds) h))

pub distinct_back : (k : Known) (all ds : Declarations) → IsDistinct (typed.names (bindings_of k all ds)) → IsDistinct (node_names k no_declarations ds)
distinct_back k all no_declarations d = tt
distinct_back k all (more_declarations d ds) h =
    subst IsDistinct (sym (names_of_nodes k d ds))
    (turned (added k d ds) (typed.names (bindings_of k all ds)) (added k d ds) (node_names k no_declarations ds) (λ x. ((λ o. o), (λ o. o))) (λ x. flip (same_members k all ds x)) (λ g. g) (distinct_back k all ds) (subst IsDistinct (names_of_bindings k all d ds) h))

pub nodes_distinct : (k : Known) (all ds : Declarations) → ((x : Variable) (i j : ℕ) → slice_get (list_nodes no_declarations ds) i ≡ Some (Some x) → slice_get (list_nodes no_declarations ds) j ≡ Some (Some x) → i ≡ j) → IsDistinct (typed.names (bindings_of k all ds))
nodes_distinct k all ds once = distinct_there k all ds (places_distinct (node_names k no_declarations ds) unique)
  where
    unique : (i j : ℕ) (z : Identifier) → slice_get (node_names k no_declarations ds) i ≡ Some z → slice_get (node_names k no_declarations ds) j ≡ Some z → i ≡ j
    unique i j z a b = ⊎_elim
        (λ v. ⊎_elim
        (λ w. once v.0 i j v.1 (w.1 ∙ ap (λ y. Some (Some y)) (identifier_injective w.0 v.0 (sym w.2 ∙ v.2))))
        (λ o. absurd (own_is v.0.qualifier v.0.text (subst IsOwnName v.2 o)))
        (fit_back (list_nodes no_declarations ds) (node_names k no_declarations ds) j z (names_fit k no_declarations ds) b))
        (λ o. own_once k no_declarations ds i j z o a b)
        (fit_back (list_nodes no_declarations ds) (node_names k no_declarations ds) i z (names_fit k no_declarations ds) a)

pub repeated_not_distinct : (k : Known) (all ds : Declarations) → IsRepeated (list_nodes no_declarations ds) → ¬ (IsDistinct (typed.names (bindings_of k all ds)))
repeated_not_distinct k all ds r d =
    let f = names_fit k no_declarations ds in
    let e = distinct_places (node_names k no_declarations ds) r.first r.second (identifier r.variable) (distinct_back k all ds d) (fit_variable (list_nodes no_declarations ds) (node_names k no_declarations ds) r.first r.variable f r.at_first) (fit_variable (list_nodes no_declarations ds) (node_names k no_declarations ds) r.second r.variable f r.at_second) in
    let l = r.apart in
    absurd (omega (arith, e, l))

-- repeated nodes stay repeated where more follow

get_more : (xs ys : List (Option Variable)) (j : ℕ) (z : Option Variable) → slice_get xs j ≡ Some z → slice_get (xs ++ ys) j ≡ Some z
get_more xs ys j z e = get_append xs ys j z e

pub repeated_more : (xs ys : List (Option Variable)) → IsRepeated xs → IsRepeated (xs ++ ys)
repeated_more xs ys r = record { variable = r.variable; first = r.first; second = r.second; apart = r.apart; at_first = get_more xs ys r.first _ r.at_first; at_second = get_more xs ys r.second _ r.at_second }

-- a variable that is a node already is repeated where it is added

pub repeated_push : (xs : List (Option Variable)) (x : Variable) → IsNode xs x → IsRepeated (xs ++ Some x ∷ [])
repeated_push xs x n = record { variable = x; first = n.0; second = length xs; apart = slice_get_within xs n.0 (Some x) n.1; at_first = get_more xs (Some x ∷ []) n.0 (Some x) n.1; at_second = get-push_new xs (Some x) }

pub repeated_before : (xs ys : List (Option Variable)) (x : Variable) → IsNode xs x → IsRepeated (xs ++ Some x ∷ ys)
repeated_before xs ys x n = subst IsRepeated (append_assoc xs (Some x ∷ []) ys) (repeated_more (xs ++ Some x ∷ []) ys (repeated_push xs x n))

pub repeated_clause : (c s : Bool) (xs : List (Option Variable)) (x : Variable) → c ≡ false → s ≡ false → IsNode xs x → IsRepeated (xs ++ cond c [] (cond s [] (Some x ∷ [])))
repeated_clause true s xs x e f n = absurd (true≢false e)
repeated_clause false true xs x e f n = absurd (true≢false f)
repeated_clause false false xs x e f n = repeated_push xs x n

pub passed_on : {X P : Type 0} (outcome : Result X GroupFault) (f : GroupFault) → IsErrAnd outcome (λ y. y ≡ f) → (f ≡ Repeated → P) → outcome ≡ Err Repeated → P
passed_on (Ok x) f i g e = absurd i
passed_on (Err k) f i g e = let h : f ≡ Repeated = cc in g h

pub repeated_row : (now initial : List (Option Variable)) (ps : List Pattern) (i : ℕ) (p : Pattern) → i < length ps → p ≡ get_or ps i p → now ++ map Some (patterns_variables (patterns (drop i ps))) ≡ initial ++ map Some (patterns_variables (patterns ps)) →
    IsRepeated (now ++ map Some (pattern_variables p)) → IsRepeated (initial ++ map Some (patterns_variables (patterns ps)))
repeated_row now initial ps i p h e whole r =
    let rest = patterns_variables (patterns (drop (i + 1) ps)) in
    subst IsRepeated
    (append_assoc now (map Some (pattern_variables p)) (map Some rest) ∙ (ap (λ zs. now ++ zs) (sym (map-append Some (pattern_variables p) rest)) ∙ (ap (λ qs. now ++ map Some (patterns_variables (patterns qs))) (sym (unrolled ps i p h e)) ∙ whole)))
    (repeated_more (now ++ map Some (pattern_variables p)) (map Some rest) r)

pub repeated_pattern : (old : List (Option Variable)) (xs : List Variable) → IsRepeated (old ++ map Some xs) → IsRepeated (old ++ (map Some xs ++ None ∷ []))
repeated_pattern old xs r = subst IsRepeated (append_assoc old (map Some xs) (None ∷ [])) (repeated_more (old ++ map Some xs) (None ∷ []) r)

pub repeated_list : (all : Declarations) (decls : List Declaration) (behind : ℕ) (d : Declaration) (rest : List Declaration) (old : List (Option Variable)) → IsStep decls behind d rest →
    old ≡ list_nodes all (declarations (drop (length decls - behind) decls)) → IsRepeated (old ++ new_nodes all d (declarations rest)) → IsRepeated (list_nodes all (declarations decls))
repeated_list all decls behind d rest old s f r = repeated_suffix all decls (length decls - (behind + 1)) (subst IsRepeated (nodes_step all decls behind d rest old (old ++ new_nodes all d (declarations rest)) s refl f) r)
  where
    repeated_suffix : (all : Declarations) (ds : List Declaration) (n : ℕ) → IsRepeated (list_nodes all (declarations (drop n ds))) → IsRepeated (list_nodes all (declarations ds))
    repeated_suffix all ds zero r = r
    repeated_suffix all [] (suc n) r = r
    repeated_suffix all (d ∷ ds) (suc n) r = repeated_more (list_nodes all (declarations ds)) (new_nodes all d (declarations ds)) (repeated_suffix all ds n r)

-- the nodes without signatures are among all names

new_or_none : (k : Known) (all : Declarations) (d : Declaration) (ds : Declarations) → (new_names k all d ds ≡ added k d ds) ⊎ (new_names k all d ds ≡ [])
new_or_none k all (data_declaration n ps cs) ds = inl refl
new_or_none k all (newtype_declaration n ps c) ds = inl refl
new_or_none k all (synonym_declaration n ps t) ds = inl refl
new_or_none k all (signature ns t) ds = inl refl
new_or_none k all (clause n ps r) ds = at (is_continued n.text ps ds) (is_signed all n.text)
  where
    at : (b s : Bool) → (cond b [] (cond s [] (identifier (variable_of n) ∷ [])) ≡ cond b [] (identifier (variable_of n) ∷ [])) ⊎ (cond b [] (cond s [] (identifier (variable_of n) ∷ [])) ≡ [])
    at true s = inl refl
    at false true = inr refl
    at false false = inl refl
new_or_none k all (pattern_binding l c p r) ds = inl refl

nodes_among : (k : Known) (all ds : Declarations) (x : Identifier) → IsOneOf x (node_names k all ds) → IsOneOf x (node_names k no_declarations ds)
nodes_among k all no_declarations x o = o
nodes_among k all (more_declarations d ds) x o =
    subst (IsOneOf x) (sym (names_of_nodes k d ds))
    (⊎_elim (λ a. among-left x (node_names k no_declarations ds) (added k d ds) (nodes_among k all ds x a))
    (λ a. ⊎_elim (λ e. among-right x (node_names k no_declarations ds) (added k d ds) (subst (IsOneOf x) e a)) (λ e. absurd (subst (IsOneOf x) e a)) (new_or_none k all d ds))
    (among-cases x (node_names k all ds) (new_names k all d ds) o))

nodes_once : (k : Known) (all ds : Declarations) → IsDistinct (node_names k no_declarations ds) → IsDistinct (node_names k all ds)
nodes_once k all no_declarations d = tt
nodes_once k all (more_declarations d ds) h =
    let g = subst IsDistinct (names_of_nodes k d ds) h in
    let here = distinct_first (node_names k no_declarations ds) (added k d ds) g in
    distinct_joined (node_names k all ds) (new_names k all d ds) (nodes_once k all ds here)
    (⊎_elim (λ e. subst IsDistinct (sym e) (distinct_rest (node_names k no_declarations ds) (added k d ds) g)) (λ e. subst IsDistinct (sym e) tt) (new_or_none k all d ds))
    (λ x o p. ⊎_elim (λ e. distinct_apart (node_names k no_declarations ds) (added k d ds) g x (nodes_among k all ds x o) (subst (IsOneOf x) e p)) (λ e. subst (IsOneOf x) e p) (new_or_none k all d ds))

pub repeated_nodes : (k : Known) (all ds : Declarations) → IsRepeated (list_nodes all ds) → ¬ (IsDistinct (typed.names (bindings_of k all ds)))
repeated_nodes k all ds r d =
    let f = names_fit k all ds in
    let e = distinct_places (node_names k all ds) r.first r.second (identifier r.variable) (nodes_once k all ds (distinct_back k all ds d)) (fit_variable (list_nodes all ds) (node_names k all ds) r.first r.variable f r.at_first) (fit_variable (list_nodes all ds) (node_names k all ds) r.second r.variable f r.at_second) in
    let l = r.apart in
    absurd (omega (arith, e, l))
