-- Edges that are added to a graph.
use Rattle.std.proofs.Common.{◌≡◌, ℕ, zero, suc, ◌+◌, ◌-◌, ◌<◌, ◌≤◌, ◌⊎◌, ⊎_elim, inl, inr, Bool, true, false, List, [], ◌∷◌, ◌++◌, take, drop, length, get_or, Contains, All, Option, Some, None, refl, sym, ap, ◌∙◌, subst, arith, ◌↔◌, length-append, cond, map}
use Rattle.std.proofs.lemmas.List.{length-map, take_all, get_or_append_left}
use Rattle.std.proofs.Math.Seq.{get_or-append_seam}
use Rattle.std.proofs.lemmas.List.Elements.{Contains-get_or}
use Rattle.std.proofs.lemmas.Option.{slice_get_within}
use Rattle.hm_graph_components.specs.Digraph.{Graph, Edge, AddsEdge}
use Rattle.hm_graph_components.proofs.Members.{Contains-take_cases, Contains-take_old, Contains-take_new}
use Rattle.hm_syntax.specs.Trees.{Declaration, data_declaration, newtype_declaration, synonym_declaration, signature, clause, pattern_binding, Declarations, no_declarations, more_declarations}
use Rattle.hm_syntax.specs.Lists.{declarations}
use Rattle.hm_names.specs.Syntax.{is_continued}
use Rattle.hm_infer_dependencies.specs.References.{pattern_variables}
use Rattle.hm_names_keys.specs.Variables.{Variable, variable_of}
use Rattle.hm_infer_dependencies.specs.Walks.{IsNodeWith, Walks, Hides}
use Rattle.hm_infer_dependencies.specs.Nodes.{is_signed, list_nodes, new_nodes, owner, owners, ListEdge, DeclarationEdge, AddsEdges, AllShown, IsGraphOf}
use Rattle.hm_infer_dependencies.proofs.NodeLists.{is_step, none_left}
use Rattle.hm_infer_dependencies.proofs.Rows.{past}
use Rattle.hm_infer_dependencies.proofs.Walking.{Contains-nil}
use Rattle.hm_names_keys.proofs.Pushed.{some_injective}

pub adds_both : (a b c : Graph) (E F G : ℕ → ℕ → Type 0) → AddsEdges a b E → AddsEdges b c F → ((x y : ℕ) → E x y ⊎ F x y → G x y) → ((x y : ℕ) → G x y → E x y ⊎ F x y) → AddsEdges a c G
adds_both a b c E F G f g to back x y = (
  (λ h. ⊎_elim (λ k. ⊎_elim inl (λ e. inr (to x y (inl e))) ((f x y).0 k)) (λ e. inr (to x y (inr e))) ((g x y).0 h)),
  (λ s. (g x y).1 (⊎_elim (λ k. inl ((f x y).1 (inl k))) (λ e. ⊎_elim (λ d. inl ((f x y).1 (inr d))) inr (back x y e)) s)),
)

pub adds_one : (a b : Graph) (p q : ℕ) → AddsEdge a b p q → AddsEdges a b (λ x y. (x ≡ p) × (y ≡ q))
adds_one a b p q e x y = e.edges x y

abbrev pub Row : ℕ → List ℕ → ℕ → ℕ → Type 0
Row from row x y = (x ≡ from) × Contains row y

abbrev pub Column : ℕ → List ℕ → ℕ → ℕ → Type 0
Column to row x y = (y ≡ to) × Contains row x

pub row_step : (a b c : Graph) (from : ℕ) (row : List ℕ) (i : ℕ) → i < length row → AddsEdges a b (Row from (take i row)) → AddsEdge b c from (get_or row i 0) → AddsEdges a c (Row from (take (i + 1) row))
row_step a b c from row i l f e = adds_both a b c (Row from (take i row)) (λ x y. (x ≡ from) × (y ≡ get_or row i 0)) (Row from (take (i + 1) row)) f (adds_one b c from (get_or row i 0) e)
    (λ x y s. ⊎_elim (λ h. (h.0, Contains-take_old row i 0 y l h.1)) (λ h. (h.0, Contains-take_new row i 0 y l h.1)) s)
    (λ x y h. ⊎_elim (λ k. inl (h.0, k)) (λ k. inr (h.0, k)) (Contains-take_cases row i 0 y l h.1))

pub column_step : (a b c : Graph) (to : ℕ) (row : List ℕ) (i : ℕ) → i < length row → AddsEdges a b (Column to (take i row)) → AddsEdge b c (get_or row i 0) to → AddsEdges a c (Column to (take (i + 1) row))
column_step a b c to row i l f e = adds_both a b c (Column to (take i row)) (λ x y. (x ≡ get_or row i 0) × (y ≡ to)) (Column to (take (i + 1) row)) f (adds_one b c (get_or row i 0) to e)
    (λ x y s. ⊎_elim (λ h. (h.0, Contains-take_old row i 0 x l h.1)) (λ h. (h.1, Contains-take_new row i 0 x l h.0)) s)
    (λ x y h. ⊎_elim (λ k. inl (h.0, k)) (λ k. inr (k, h.0)) (Contains-take_cases row i 0 x l h.1))

pub row_all : (a b : Graph) (from : ℕ) (row : List ℕ) (i : ℕ) → length row ≤ i → AddsEdges a b (Row from (take i row)) → AddsEdges a b (Row from row)
row_all a b from row i l f = subst (λ r. AddsEdges a b (Row from r)) (take_all i row l) f

pub column_all : (a b : Graph) (to : ℕ) (row : List ℕ) (i : ℕ) → length row ≤ i → AddsEdges a b (Column to (take i row)) → AddsEdges a b (Column to row)
column_all a b to row i l f = subst (λ r. AddsEdges a b (Column to r)) (take_all i row l) f

-- what a walk from nothing found

pub found_nodes : (nodes : List (Option Variable)) (P : Variable → Type 0) (shown after : List Bool) (start row all : List ℕ) (count : ℕ) → count ≡ length nodes → AllShown shown count → start ≡ [] → all ≡ row → Walks nodes P shown after start row → (k : ℕ) → Contains all k ↔ IsNodeWith nodes P k
found_nodes nodes P shown after start row all count n s e f w k = (
  (λ c. ⊎_elim (λ h. absurd (Contains-nil k (subst (λ z. Contains z k) e h))) (λ h. h.1) ((w.finds k).0 (subst (λ z. Contains z k) f c))),
  (λ h. subst (λ z. Contains z k) (sym f) ((w.finds k).1 (inr (s.each k (subst (λ m. k < m) (sym n) (slice_get_within nodes k (Some h.variable) h.node)), h)))),
)

pub hidden_nodes : (nodes : List (Option Variable)) (xs : List Variable) (shown after : List Bool) (start row all : List ℕ) (count : ℕ) → count ≡ length nodes → AllShown shown count → start ≡ [] → all ≡ row → Hides nodes xs shown after start row → (k : ℕ) → Contains all k ↔ IsNodeWith nodes (λ y. Rattle.hm_typing.specs.Names.IsOneOf y xs) k
hidden_nodes nodes xs shown after start row all count n s e f w k = (
  (λ c. ⊎_elim (λ h. absurd (Contains-nil k (subst (λ z. Contains z k) e h))) (λ h. h.1) ((w.noted k).0 (subst (λ z. Contains z k) f c))),
  (λ h. subst (λ z. Contains z k) (sym f) ((w.noted k).1 (inr (s.each k (subst (λ m. k < m) (sym n) (slice_get_within nodes k (Some h.variable) h.node)), h)))),
)

pub row_below : (nodes : List (Option Variable)) (P : Variable → Type 0) (row : List ℕ) (count : ℕ) → count ≡ length nodes → ((k : ℕ) → Contains row k ↔ IsNodeWith nodes P k) → All (λ k. k < count) row
row_below nodes P row count n f k d l =
    let h = (f (get_or row k d)).0 (Contains-get_or row k d l) in
    subst (λ m. get_or row k d < m) (sym n) (slice_get_within nodes (get_or row k d) (Some h.variable) h.node)

-- owners

pub length-owners : (all : Declarations) (ds : List Declaration) → length (owners all (declarations ds)) ≡ length ds
length-owners all [] = refl
length-owners all (d ∷ ds) = length-append (owners all (declarations ds)) (owner all (declarations (d ∷ ds)) ∷ []) ∙ (let h = length-owners all ds in omega arith)

pub owners_at : (all : Declarations) (ds : List Declaration) (b : ℕ) (o : Option ℕ) → b < length ds → get_or (owners all (declarations ds)) b o ≡ owner all (declarations (drop (length ds - (b + 1)) ds))
owners_at all [] b o l = absurd (omega arith)
owners_at all (d ∷ ds) b o l = ⊎_elim (λ h. inside h (owners_at all ds b o h)) last (split b (length ds) l)
  where
    split : (b n : ℕ) → b < suc n → (b < n) ⊎ (b ≡ n)
    split zero zero h = inr refl
    split zero (suc n) h = inl (omega arith)
    split (suc b) zero h = absurd (omega arith)
    split (suc b) (suc n) h = ⊎_elim (λ k. inl (omega (arith, k))) (λ k. inr (ap suc k)) (split b n (omega arith))

    long : length (owners all (declarations ds)) ≡ length ds
    long = length-owners all ds

    inside : b < length ds → get_or (owners all (declarations ds)) b o ≡ owner all (declarations (drop (length ds - (b + 1)) ds)) → get_or (owners all (declarations (d ∷ ds))) b o ≡ owner all (declarations (drop (length (d ∷ ds) - (b + 1)) (d ∷ ds)))
    inside h same =
        let p : suc (length ds) - (b + 1) ≡ suc (length ds - (b + 1)) = omega arith in
        get_or_append_left (owners all (declarations ds)) (owner all (declarations (d ∷ ds)) ∷ []) o b (omega (arith, long))
        ∙ (same ∙ sym (ap (λ i. owner all (declarations (drop i (d ∷ ds)))) p))

    last : b ≡ length ds → get_or (owners all (declarations (d ∷ ds))) b o ≡ owner all (declarations (drop (length (d ∷ ds) - (b + 1)) (d ∷ ds)))
    last h =
        let p : suc (length ds) - (b + 1) ≡ 0 = omega arith in
        ap (λ i. get_or (owners all (declarations (d ∷ ds))) i o) (h ∙ sym long)
        ∙ (get_or-append_seam (owners all (declarations ds)) (owner all (declarations (d ∷ ds))) [] o
        ∙ sym (ap (λ i. owner all (declarations (drop i (d ∷ ds)))) p))

-- an owner is a node

clause_below : (c s : Bool) (behind : Option ℕ) (xs : List (Option Variable)) (v : Option Variable) (j : ℕ) → cond c behind (cond s None (Some (length xs))) ≡ Some j → (behind ≡ Some j → j < length xs) → j < length (xs ++ cond c [] (cond s [] (v ∷ [])))
clause_below true s behind xs v j e f = let h = length-append xs [] in let k = f e in omega arith
clause_below false true behind xs v j e f = cc
clause_below false false behind xs v j e f = let h = length-append xs (v ∷ []) in let k : length xs ≡ j = some_injective e in omega arith

pub owner_below : (all : Declarations) (ds : Declarations) (j : ℕ) → owner all ds ≡ Some j → j < length (list_nodes all ds)
owner_below all no_declarations j e = cc
owner_below all (more_declarations (data_declaration n ps cs) ds) j e = cc
owner_below all (more_declarations (newtype_declaration n ps c) ds) j e = cc
owner_below all (more_declarations (synonym_declaration n ps t) ds) j e = cc
owner_below all (more_declarations (signature ns t) ds) j e = cc
owner_below all (more_declarations (clause n ps r) ds) j e = clause_below (is_continued n.text ps ds) (is_signed all n.text) (owner all ds) (list_nodes all ds) (Some (variable_of n)) j e (owner_below all ds j)
owner_below all (more_declarations (pattern_binding l c p r) ds) j e =
    let h = length-append (list_nodes all ds) (map Some (pattern_variables p) ++ None ∷ []) in
    let g = length-append (map Some (pattern_variables p)) (None ∷ []) in
    let m = length-map (pattern_variables p) (λ z. Some z) in
    let k : length (list_nodes all ds) + length (pattern_variables p) ≡ j = some_injective e in omega arith

pub nodes_grow : (all : Declarations) (ds : List Declaration) (i : ℕ) → length (list_nodes all (declarations (drop i ds))) ≤ length (list_nodes all (declarations ds))
nodes_grow all [] zero = omega arith
nodes_grow all [] (suc i) = omega arith
nodes_grow all (d ∷ ds) zero = omega arith
nodes_grow all (d ∷ ds) (suc i) = let h = nodes_grow all ds i in let g = length-append (list_nodes all (declarations ds)) (new_nodes all d (declarations ds)) in omega arith

-- the graph so far

pub edges_step : (all : Declarations) (nodes : List (Option Variable)) (decls : List Declaration) (behind : ℕ) (d : Declaration) (o : Option ℕ) (a b : Graph) → drop (length decls - (behind + 1)) decls ≡ d ∷ drop (length decls - behind) decls →
    o ≡ owner all (declarations (drop (length decls - (behind + 1)) decls)) → AddsEdges a b (λ x y. (own : ℕ) × (o ≡ Some own) × DeclarationEdge nodes d own x y) →
    ((x y : ℕ) → Edge a x y ↔ ListEdge all nodes (declarations (drop (length decls - behind) decls)) x y) → (x y : ℕ) → Edge b x y ↔ ListEdge all nodes (declarations (drop (length decls - (behind + 1)) decls)) x y
edges_step all nodes decls behind d o a b e f g h x y = subst (λ ds. Edge b x y ↔ ListEdge all nodes (declarations ds) x y) (sym e) (
  (λ k. ⊎_elim (λ m. inr ((h x y).0 m)) (λ m. inl (m.0, sym at ∙ m.1, m.2)) ((g x y).0 k)),
  (λ s. (g x y).1 (⊎_elim (λ m. inr (m.0, at ∙ m.1, m.2)) (λ m. inl ((h x y).1 m)) s)),
)
  where
    at : o ≡ owner all (declarations (d ∷ drop (length decls - behind) decls))
    at = f ∙ ap (λ ds. owner all (declarations ds)) e

pub adds_iff : (a b : Graph) (E F : ℕ → ℕ → Type 0) → ((x y : ℕ) → E x y → F x y) → ((x y : ℕ) → F x y → E x y) → AddsEdges a b E → AddsEdges a b F
adds_iff a b E F to back f x y = ((λ h. ⊎_elim inl (λ e. inr (to x y e)) ((f x y).0 h)), (λ s. (f x y).1 (⊎_elim inl (λ e. inr (back x y e)) s)))

pub edges_none : (all : Declarations) (nodes : List (Option Variable)) (decls : List Declaration) (a : Graph) → ((x y : ℕ) → ¬ (Edge a x y)) → (x y : ℕ) → Edge a x y ↔ ListEdge all nodes (declarations (drop (length decls - 0) decls)) x y
edges_none all nodes decls a n x y = subst (λ ds. Edge a x y ↔ ListEdge all nodes (declarations ds) x y) (sym (past decls (length decls - 0) (omega arith))) ((λ h. absurd (n x y h)), (λ h. absurd h))

pub own_below : (decls : List Declaration) (behind : ℕ) (os : List (Option ℕ)) (nodes : List (Option Variable)) (o : Option ℕ) (count : ℕ) → behind < length decls → os ≡ owners (declarations decls) (declarations decls) → nodes ≡ list_nodes (declarations decls) (declarations decls) → count ≡ length nodes → o ≡ get_or os behind o →
    (own : ℕ) → o ≡ Some own → own < count
own_below decls behind os nodes o count l e f n g own h =
    let at : owner (declarations decls) (declarations (drop (length decls - (behind + 1)) decls)) ≡ Some own = sym (g ∙ (ap (λ z. get_or z behind o) e ∙ owners_at (declarations decls) decls behind o l)) ∙ h in
    let b = owner_below (declarations decls) (declarations (drop (length decls - (behind + 1)) decls)) own at in
    let m = nodes_grow (declarations decls) decls (length decls - (behind + 1)) in
    let k : count ≡ length (list_nodes (declarations decls) (declarations decls)) = n ∙ ap length f in omega arith

pub owner_read : (decls : List Declaration) (behind : ℕ) (os : List (Option ℕ)) (o : Option ℕ) → behind < length decls → os ≡ owners (declarations decls) (declarations decls) → o ≡ get_or os behind o → o ≡ owner (declarations decls) (declarations (drop (length decls - (behind + 1)) decls))
owner_read decls behind os o l e g = g ∙ (ap (λ z. get_or z behind o) e ∙ owners_at (declarations decls) decls behind o l)

pub graph_done : (decls : List Declaration) (behind : ℕ) (nodes : List (Option Variable)) (g : Graph) → length decls ≤ behind → nodes ≡ list_nodes (declarations decls) (declarations decls) → length g ≡ length nodes →
    ((x y : ℕ) → Edge g x y ↔ ListEdge (declarations decls) nodes (declarations (drop (length decls - behind) decls)) x y) → IsGraphOf (declarations decls) g
graph_done decls behind nodes g l e n h = record {
  size = n ∙ ap length e;
  edges = λ x y. subst (λ z. Edge g x y ↔ ListEdge (declarations decls) z (declarations decls) x y) e (subst (λ ds. Edge g x y ↔ ListEdge (declarations decls) nodes (declarations ds) x y) (none_left decls behind l) (h x y));
}

pub step_here : (decls : List Declaration) (behind : ℕ) (d : Declaration) → behind < length decls → d ≡ get_or decls (length decls - 1 - behind) d → drop (length decls - (behind + 1)) decls ≡ d ∷ drop (length decls - behind) decls
step_here decls behind d l e = (is_step decls behind d _ l e refl).here
