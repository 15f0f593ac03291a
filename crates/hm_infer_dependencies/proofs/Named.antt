-- The names of nodes: those of a list without signatures, each once.
use Rattle.std.proofs.Common.{◌≡◌, ℕ, zero, suc, Bool, true, false, cond, List, [], ◌∷◌, ◌++◌, map, length, Option, Some, None, is_some, ◌⊎◌, ⊎_elim, inl, inr, refl, sym, ap, ◌∙◌, subst, ◌↔◌}
use Rattle.std.specs.List.{slice_get}
use Rattle.hm_typing.specs.Names.{Identifier, local, global, binding, IsOneOf}
use Rattle.hm_typing.specs.Schemes.{Monotype}
use Rattle.hm_typing.specs.Syntax as typed
use Rattle.hm_typing.specs.Units.{IsUnsigned}
use Rattle.hm_syntax.specs.Trees.{Declaration, data_declaration, newtype_declaration, synonym_declaration, signature, clause, pattern_binding, Declarations, no_declarations, more_declarations}
use Rattle.hm_names.specs.Syntax.{Known, pattern_of, patterns_of, right_sides_of, where_of, bindings_of, is_continued, signature_of, add_clause, bound_by, declaration_count}
use Rattle.hm_names_keys.specs.Variables.{Variable, variable_of, identifier}
use Rattle.hm_infer_dependencies.specs.References.{pattern_variables}
use Rattle.hm_infer_dependencies.specs.Nodes.{is_signed, new_nodes, list_nodes}
use Rattle.hm_infer_dependencies.specs.Groups.{new_names, node_names}
use Rattle.hm_infer_dependencies.proofs.Walking.{among-left, among-right, among-cases}
use Rattle.hm_infer_dependencies.proofs.Mentioned.{pattern_same}
use Rattle.hm_names_keys.proofs.Pushed.{some_injective}

-- a name per node: a variable's is its identifier, a pattern binding's is no source's
abbrev pub IsOwnName : Identifier → Type 0
IsOwnName (local x) = ⊥
IsOwnName (global e) = ⊥
IsOwnName (binding m i) = Unit {0}

abbrev pub Fits : Option Variable → Identifier → Type 0
Fits None z = IsOwnName z
Fits (Some x) z = z ≡ identifier x

abbrev pub AllFit : List (Option Variable) → List Identifier → Type 0
AllFit [] [] = Unit {0}
AllFit [] (z ∷ zs) = ⊥
AllFit (v ∷ vs) [] = ⊥
AllFit (v ∷ vs) (z ∷ zs) = Fits v z × AllFit vs zs

fit_append : (vs ws : List (Option Variable)) (zs us : List Identifier) → AllFit vs zs → AllFit ws us → AllFit (vs ++ ws) (zs ++ us)
fit_append [] ws [] us f g = g
fit_append [] ws (z ∷ zs) us f g = absurd f
fit_append (v ∷ vs) ws [] us f g = absurd f
fit_append (v ∷ vs) ws (z ∷ zs) us f g = (f.0, fit_append vs ws zs us f.1 g)

fit_variables : (xs : List Variable) → AllFit (map Some xs) (map identifier xs)
fit_variables [] = tt
fit_variables (x ∷ xs) = (refl, fit_variables xs)

fit_cond : (c s : Bool) (x : Variable) → AllFit (cond c [] (cond s [] (Some x ∷ []))) (cond c [] (cond s [] (identifier x ∷ [])))
fit_cond true s x = tt
fit_cond false true x = tt
fit_cond false false x = (refl, tt)

fit_new : (k : Known) (all : Declarations) (d : Declaration) (ds : Declarations) → AllFit (new_nodes all d ds) (new_names k all d ds)
fit_new k all (data_declaration n ps cs) ds = tt
fit_new k all (newtype_declaration n ps c) ds = tt
fit_new k all (synonym_declaration n ps t) ds = tt
fit_new k all (signature ns t) ds = tt
fit_new k all (clause n ps r) ds = fit_cond (is_continued n.text ps ds) (is_signed all n.text) (variable_of n)
fit_new k all (pattern_binding l c p r) ds = fit_append (map Some (pattern_variables p)) (None ∷ []) (map identifier (pattern_variables p)) (binding k.home (declaration_count ds) ∷ []) (fit_variables (pattern_variables p)) (tt, tt)

pub names_fit : (k : Known) (all ds : Declarations) → AllFit (list_nodes all ds) (node_names k all ds)
names_fit k all no_declarations = tt
names_fit k all (more_declarations d ds) = fit_append (list_nodes all ds) (new_nodes all d ds) (node_names k all ds) (new_names k all d ds) (names_fit k all ds) (fit_new k all d ds)

pub fit_length : (vs : List (Option Variable)) (zs : List Identifier) → AllFit vs zs → length vs ≡ length zs
fit_length [] [] f = refl
fit_length [] (z ∷ zs) f = absurd f
fit_length (v ∷ vs) [] f = absurd f
fit_length (v ∷ vs) (z ∷ zs) f = ap suc (fit_length vs zs f.1)

-- the name of a variable's node
pub fit_variable : (vs : List (Option Variable)) (zs : List Identifier) (j : ℕ) (x : Variable) → AllFit vs zs → slice_get vs j ≡ Some (Some x) → slice_get zs j ≡ Some (identifier x)
fit_variable [] zs j x f e = absurd (none_some e)
  where
    none_some : {X : Type 0} {a : X} → None ≡ Some a → ⊥
    none_some h = cc
fit_variable (v ∷ vs) [] j x f e = absurd f
fit_variable (v ∷ vs) (z ∷ zs) zero x f e = ap Some (subst (λ o. Fits o z) (some_injective e) f.0)
fit_variable (v ∷ vs) (z ∷ zs) (suc j) x f e = fit_variable vs zs j x f.1 e

-- and back
pub fit_back : (vs : List (Option Variable)) (zs : List Identifier) (j : ℕ) (z : Identifier) → AllFit vs zs → slice_get zs j ≡ Some z → ((x : Variable) × (slice_get vs j ≡ Some (Some x)) × (z ≡ identifier x)) ⊎ IsOwnName z
fit_back vs [] j z f e = absurd (none_some e)
  where
    none_some : {X : Type 0} {a : X} → None ≡ Some a → ⊥
    none_some h = cc
fit_back [] (u ∷ zs) j z f e = absurd f
fit_back (None ∷ vs) (u ∷ zs) zero z f e = inr (subst IsOwnName (some_injective e) f.0)
fit_back (Some x ∷ vs) (u ∷ zs) zero z f e = inl (x, refl, sym (some_injective e) ∙ f.0)
fit_back (v ∷ vs) (u ∷ zs) (suc j) z f e = fit_back vs zs j z f.1 e

-- the names are those without signatures

unsigned_add : (x : Identifier) (c : typed.Clauses → typed.Clauses) (rest : typed.Bindings) → IsUnsigned x (add_clause c rest) ↔ IsUnsigned x rest
unsigned_add x c typed.no_binding = ((λ h. h), (λ h. h))
unsigned_add x c (typed.unsigned z cs ds) = ((λ h. h), (λ h. h))
unsigned_add x c (typed.signed z s cs ds) = ((λ h. h), (λ h. h))
unsigned_add x c (typed.matched z p cs ds) = ((λ h. h), (λ h. h))

unsigned_clause : (b : Bool) (x : Identifier) (n : Identifier) (o : Option Monotype) (c : typed.Clauses → typed.Clauses) (cs : typed.Clauses) (rest : typed.Bindings) (zs : List Identifier) → IsOneOf x zs ↔ IsUnsigned x rest →
    IsOneOf x (zs ++ cond b [] (cond (is_some o) [] (n ∷ []))) ↔ IsUnsigned x (cond b (add_clause c rest) (bound_by n o cs rest))
unsigned_clause true x n o c cs rest zs f = let g = unsigned_add x c rest in ((λ h. g.1 (f.0 (⊎_elim (λ a. a) (λ z. absurd z) (among-cases x zs [] h)))), (λ h. among-left x zs [] (f.1 (g.0 h))))
unsigned_clause false x n (Some s) c cs rest zs f = ((λ h. f.0 (⊎_elim (λ a. a) (λ z. absurd z) (among-cases x zs [] h))), (λ h. among-left x zs [] (f.1 h)))
unsigned_clause false x n None c cs rest zs f = (
  (λ h. ⊎_elim (λ a. inr (f.0 a)) (λ a. ⊎_elim inl (λ z. absurd z) a) (among-cases x zs (n ∷ []) h)),
  (λ h. ⊎_elim (λ e. among-right x zs (n ∷ []) (inl e)) (λ a. among-left x zs (n ∷ []) (f.1 a)) h),
)

pub names_unsigned : (k : Known) (all ds : Declarations) (x : Identifier) → IsOneOf x (node_names k all ds) ↔ IsUnsigned x (bindings_of k all ds)
names_unsigned k all no_declarations x = ((λ h. h), (λ h. h))
names_unsigned k all (more_declarations (data_declaration n ps cs) ds) x = nothing_new (node_names k all ds) (names_unsigned k all ds x)
  where
    nothing_new : {P : Type 0} (zs : List Identifier) → IsOneOf x zs ↔ P → IsOneOf x (zs ++ []) ↔ P
    nothing_new zs f = ((λ h. f.0 (⊎_elim (λ a. a) (λ z. absurd z) (among-cases x zs [] h))), (λ h. among-left x zs [] (f.1 h)))
names_unsigned k all (more_declarations (newtype_declaration n ps c) ds) x = nothing_new (node_names k all ds) (names_unsigned k all ds x)
  where
    nothing_new : {P : Type 0} (zs : List Identifier) → IsOneOf x zs ↔ P → IsOneOf x (zs ++ []) ↔ P
    nothing_new zs f = ((λ h. f.0 (⊎_elim (λ a. a) (λ z. absurd z) (among-cases x zs [] h))), (λ h. among-left x zs [] (f.1 h)))
names_unsigned k all (more_declarations (synonym_declaration n ps t) ds) x = nothing_new (node_names k all ds) (names_unsigned k all ds x)
  where
    nothing_new : {P : Type 0} (zs : List Identifier) → IsOneOf x zs ↔ P → IsOneOf x (zs ++ []) ↔ P
    nothing_new zs f = ((λ h. f.0 (⊎_elim (λ a. a) (λ z. absurd z) (among-cases x zs [] h))), (λ h. among-left x zs [] (f.1 h)))
names_unsigned k all (more_declarations (signature ns t) ds) x = nothing_new (node_names k all ds) (names_unsigned k all ds x)
  where
    nothing_new : {P : Type 0} (zs : List Identifier) → IsOneOf x zs ↔ P → IsOneOf x (zs ++ []) ↔ P
    nothing_new zs f = ((λ h. f.0 (⊎_elim (λ a. a) (λ z. absurd z) (among-cases x zs [] h))), (λ h. among-left x zs [] (f.1 h)))
names_unsigned k all (more_declarations (clause n ps r) ds) x =
    unsigned_clause (is_continued n.text ps ds) x (identifier (variable_of n)) (signature_of n.text all) (λ cs. typed.clause (patterns_of k ps) (right_sides_of k r) (where_of k r) cs) (typed.clause (patterns_of k ps) (right_sides_of k r) (where_of k r) typed.no_clause) (bindings_of k all ds) (node_names k all ds) (names_unsigned k all ds x)
names_unsigned k all (more_declarations (pattern_binding l c p r) ds) x =
    let f = names_unsigned k all ds x in
    let e : map identifier (pattern_variables p) ++ binding k.home (declaration_count ds) ∷ [] ≡ typed.matched_names (binding k.home (declaration_count ds)) (pattern_of k p) = ap (λ zs. zs ++ binding k.home (declaration_count ds) ∷ []) (sym (pattern_same k p)) in
    subst (λ us. IsOneOf x (node_names k all ds ++ us) ↔ IsUnsigned x (bindings_of k all (more_declarations (pattern_binding l c p r) ds))) (sym e) (
      (λ h. ⊎_elim (λ a. inr (f.0 a)) inl (among-cases x (node_names k all ds) (typed.matched_names (binding k.home (declaration_count ds)) (pattern_of k p)) h)),
      (λ h. ⊎_elim (λ a. among-right x (node_names k all ds) (typed.matched_names (binding k.home (declaration_count ds)) (pattern_of k p)) a) (λ a. among-left x (node_names k all ds) (typed.matched_names (binding k.home (declaration_count ds)) (pattern_of k p)) (f.1 a)) h),
    )

-- places

pub place_of : (x : Identifier) (zs : List Identifier) → IsOneOf x zs → (j : ℕ) × (slice_get zs j ≡ Some x)
place_of x [] o = absurd o
place_of x (z ∷ zs) (inl e) = (zero, ap Some (sym e))
place_of x (z ∷ zs) (inr o) = let h = place_of x zs o in (suc h.0, h.1)

pub at_place : (x : Identifier) (zs : List Identifier) (j : ℕ) → slice_get zs j ≡ Some x → IsOneOf x zs
at_place x [] j e = absurd (none_some e)
  where
    none_some : {X : Type 0} {a : X} → None ≡ Some a → ⊥
    none_some h = cc
at_place x (z ∷ zs) zero e = inl (sym (some_injective e))
at_place x (z ∷ zs) (suc j) e = inr (at_place x zs j e)
