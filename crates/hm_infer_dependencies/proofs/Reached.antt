-- The edges of a list's graph are its references.
use Rattle.std.proofs.Common.{◌≡◌, ℕ, zero, suc, ◌+◌, Bool, true, false, cond, List, [], ◌∷◌, ◌++◌, map, length, Option, Some, None, is_some, ◌⊎◌, ⊎_elim, inl, inr, refl, sym, ◌∙◌, subst, ◌↔◌, arith, append_assoc, length-append}
use Rattle.std.specs.List.{slice_get}
use Rattle.std.proofs.lemmas.Bool.{both_ways}
use Rattle.std.proofs.lemmas.List.{length-map}
use Rattle.hm_typing.specs.Names.{Identifier, binding}
use Rattle.hm_typing.specs.Schemes.{Monotype}
use Rattle.hm_typing.specs.Syntax as typed
use Rattle.hm_typing.specs.Mentions.{Mentions, ExpressionsMention, ClausesMention, RightSidesMention, BindingsMention}
use Rattle.hm_typing.specs.Units.{IsSigned, BindingMentions}
use Rattle.hm_syntax.specs.Trees.{Pattern, Patterns, Expression, variable_expression, constructor_expression, literal_expression, application, lambda, let_expression, if_expression, case_expression, tuple_expression, list_expression, typed_expression, Expressions, no_expressions, more_expressions, data_declaration, newtype_declaration, synonym_declaration, signature, clause, pattern_binding, Declarations, no_declarations, more_declarations, RightSide, right_side, Bodies, no_bodies, plain_body, guarded_body, alternative, Alternatives, no_alternatives, more_alternatives}
use Rattle.hm_names.specs.Syntax.{Known, name_in, patterns_of, expression_of, expressions_of, alternatives_of, right_sides_of, where_of, bodies_of, bindings_of, is_continued, signature_of, add_clause, bound_by, declaration_count}
use Rattle.hm_names_keys.specs.Variables.{variable_of, identifier}
use Rattle.hm_infer_dependencies.specs.References.{pattern_variables}
use Rattle.hm_infer_dependencies.specs.Nodes.{list_nodes, owner}
use Rattle.hm_infer_dependencies.specs.Groups.{node_names}
use Rattle.hm_names_keys.proofs.Pushed.{some_injective, get-push_new}
use Rattle.hm_infer_dependencies.proofs.Mentioned.{ClauseMentions, clause_mentions, BeginsWithClauses, begins}
use Rattle.hm_infer_dependencies.proofs.Named.{IsOwnName, names_fit, fit_length}

pub own_is : (q : Option (List ℕ)) (x : List ℕ) → ¬ (IsOwnName (name_in q x))
own_is None x h = h
own_is (Some q) x h = h

-- no source mentions the name of a pattern binding

mutual
  pub never : (k : Known) (z : Identifier) → IsOwnName z → (e : Expression) → ¬ (Mentions z (expression_of k e))
  never k z o (variable_expression n) m = own_is n.qualifier n.text (subst IsOwnName m o)
  never k z o (constructor_expression n) m = m
  never k z o (literal_expression l) m = m
  never k z o (application f e) m = ⊎_elim (never k z o f) (never k z o e) m
  never k z o (lambda ps e) m = never k z o e m.1
  never k z o (let_expression ds e) m = ⊎_elim (never_list k z o ds ds) (never k z o e) m.1
  never k z o (if_expression a b c) m = ⊎_elim (never k z o a) (λ h. ⊎_elim (never k z o b) (never k z o c) h) m
  never k z o (case_expression e rest) m = ⊎_elim (never k z o e) (never_alternatives k z o rest) m
  never k z o (tuple_expression es) m = never_all k z o es m
  never k z o (list_expression es) m = never_all k z o es m
  never k z o (typed_expression e t) m = never k z o e m

  pub never_all : (k : Known) (z : Identifier) → IsOwnName z → (es : Expressions) → ¬ (ExpressionsMention z (expressions_of k es))
  never_all k z o no_expressions m = m
  never_all k z o (more_expressions e es) m = ⊎_elim (never k z o e) (never_all k z o es) m

  pub never_alternatives : (k : Known) (z : Identifier) → IsOwnName z → (rest : Alternatives) → ¬ (ClausesMention z (alternatives_of k rest))
  never_alternatives k z o no_alternatives m = m
  never_alternatives k z o (more_alternatives (alternative p r) rest) m = ⊎_elim (λ h. never_right k z o r h.1.1) (never_alternatives k z o rest) m

  pub never_right : (k : Known) (z : Identifier) → IsOwnName z → (r : RightSide) → ¬ (RightSidesMention z (right_sides_of k r) ⊎ BindingsMention z (where_of k r))
  never_right k z o (right_side gs ds) m = ⊎_elim (never_bodies k z o gs) (never_list k z o ds ds) m

  pub never_bodies : (k : Known) (z : Identifier) → IsOwnName z → (gs : Bodies) → ¬ (RightSidesMention z (bodies_of k gs))
  never_bodies k z o no_bodies m = m
  never_bodies k z o (plain_body e gs) m = ⊎_elim (never k z o e) (never_bodies k z o gs) m
  never_bodies k z o (guarded_body g e gs) m = ⊎_elim (never k z o g) (λ h. ⊎_elim (never k z o e) (never_bodies k z o gs) h) m

  pub never_list : (k : Known) (z : Identifier) → IsOwnName z → (all ds : Declarations) → ¬ (BindingsMention z (bindings_of k all ds))
  never_list k z o all no_declarations m = m
  never_list k z o all (more_declarations (data_declaration n ps cs) ds) m = never_list k z o all ds m
  never_list k z o all (more_declarations (newtype_declaration n ps c) ds) m = never_list k z o all ds m
  never_list k z o all (more_declarations (synonym_declaration n ps t) ds) m = never_list k z o all ds m
  never_list k z o all (more_declarations (signature ns t) ds) m = never_list k z o all ds m
  never_list k z o all (more_declarations (clause n ps r) ds) m =
      ⊎_elim (λ h. never_right k z o r h.1.1) (never_list k z o all ds)
      ((clause_mentions (is_continued n.text ps ds) z (name_in n.qualifier n.text) (signature_of n.text all) (patterns_of k ps) (right_sides_of k r) (where_of k r) (bindings_of k all ds) (begins k all ds n.text ps)).0 m)
  never_list k z o all (more_declarations (pattern_binding l c p r) ds) m = ⊎_elim (λ h. ⊎_elim (λ g. never_right k z o r g.1.1) (λ g. g) h) (never_list k z o all ds) m

-- the first name of a list

abbrev pub FirstIs : Identifier → typed.Bindings → Type 0
FirstIs x typed.no_binding = ⊥
FirstIs x (typed.unsigned z cs ds) = x ≡ z
FirstIs x (typed.signed z s cs ds) = x ≡ z
FirstIs x (typed.matched z p cs ds) = x ≡ z

first_add : (x : Identifier) (c : typed.Clauses → typed.Clauses) (rest : typed.Bindings) → FirstIs x (add_clause c rest) ↔ FirstIs x rest
first_add x c typed.no_binding = ((λ h. h), (λ h. h))
first_add x c (typed.unsigned z cs ds) = ((λ h. h), (λ h. h))
first_add x c (typed.signed z s cs ds) = ((λ h. h), (λ h. h))
first_add x c (typed.matched z p cs ds) = ((λ h. h), (λ h. h))

-- who mentions what, where a clause comes first
pub clause_binding : (b : Bool) (x y n : Identifier) (o : Option Monotype) (ps : typed.Patterns) (gs : typed.RightSides) (ws : typed.Bindings) (rest : typed.Bindings) → (b ≡ true → BeginsWithClauses rest) →
    BindingMentions x y (cond b (add_clause (λ cs. typed.clause ps gs ws cs) rest) (bound_by n o (typed.clause ps gs ws typed.no_clause) rest))
    ↔ ((FirstIs x (cond b (add_clause (λ cs. typed.clause ps gs ws cs) rest) (bound_by n o (typed.clause ps gs ws typed.no_clause) rest)) × ClauseMentions y ps gs ws) ⊎ BindingMentions x y rest)
clause_binding true x y n o ps gs ws typed.no_binding f = absurd (f refl)
clause_binding true x y n o ps gs ws (typed.unsigned z cs ds) f = (
  (λ s. ⊎_elim (λ h. ⊎_elim (λ m. inl (h.0, m)) (λ m. inr (inl (h.0, m))) h.1) (λ h. inr (inr h)) s),
  (λ s. ⊎_elim (λ h. inl (h.0, inl h.1)) (λ h. ⊎_elim (λ g. inl (g.0, inr g.1)) inr h) s),
)
clause_binding true x y n o ps gs ws (typed.signed z t cs ds) f = (
  (λ s. ⊎_elim (λ h. ⊎_elim (λ m. inl (h.0, m)) (λ m. inr (inl (h.0, m))) h.1) (λ h. inr (inr h)) s),
  (λ s. ⊎_elim (λ h. inl (h.0, inl h.1)) (λ h. ⊎_elim (λ g. inl (g.0, inr g.1)) inr h) s),
)
clause_binding true x y n o ps gs ws (typed.matched z p cs ds) f = absurd (f refl)
clause_binding false x y n None ps gs ws rest f = (
  (λ s. ⊎_elim (λ h. inl (h.0, ⊎_elim (λ m. m) (λ z. absurd z) h.1)) inr s),
  (λ s. ⊎_elim (λ h. inl (h.0, inl h.1)) inr s),
)
clause_binding false x y n (Some t) ps gs ws rest f = (
  (λ s. ⊎_elim (λ h. inl (h.0, ⊎_elim (λ m. m) (λ z. absurd z) h.1)) inr s),
  (λ s. ⊎_elim (λ h. inl (h.0, inl h.1)) inr s),
)

-- places in joined lists

pub get_append : {X : Type 0} (xs ys : List X) (j : ℕ) (z : X) → slice_get xs j ≡ Some z → slice_get (xs ++ ys) j ≡ Some z
get_append [] ys j z e = absurd (none_some e)
  where
    none_some : {Y : Type 0} {a : Y} → None ≡ Some a → ⊥
    none_some h = cc
get_append (x ∷ xs) ys zero z e = e
get_append (x ∷ xs) ys (suc j) z e = get_append xs ys j z e

-- an owner has the first name

clause_first : (b : Bool) (o : Option Monotype) (behind : Option ℕ) (zs : List Identifier) (count j : ℕ) (n : Identifier) (c : typed.Clauses → typed.Clauses) (cs : typed.Clauses) (rest : typed.Bindings) → count ≡ length zs →
    (behind ≡ Some j → (x : Identifier) × (slice_get zs j ≡ Some x) × FirstIs x rest) → cond b behind (cond (is_some o) None (Some count)) ≡ Some j →
    (x : Identifier) × (slice_get (zs ++ cond b [] (cond (is_some o) [] (n ∷ []))) j ≡ Some x) × FirstIs x (cond b (add_clause c rest) (bound_by n o cs rest))
clause_first true o behind zs count j n c cs rest e f h = let g = f h in (g.0, get_append zs [] j g.0 g.1, (first_add g.0 c rest).1 g.2)
clause_first false (Some s) behind zs count j n c cs rest e f h = cc
clause_first false None behind zs count j n c cs rest e f h = (n, subst (λ i. slice_get (zs ++ n ∷ []) i ≡ Some n) (sym e ∙ some_injective h) (get-push_new zs n), refl)

pub names_long : (k : Known) (all ds : Declarations) → length (list_nodes all ds) ≡ length (node_names k all ds)
names_long k all ds = fit_length (list_nodes all ds) (node_names k all ds) (names_fit k all ds)

none_some_ : {X Y : Type 0} {a : X} → None ≡ Some a → Y
none_some_ h = cc

-- the place of a pattern binding's own name
pub own_place : (k : Known) (all ds : Declarations) (p : Pattern) (z : Identifier) → slice_get (node_names k all ds ++ (map identifier (pattern_variables p) ++ z ∷ [])) (length (list_nodes all ds) + length (pattern_variables p)) ≡ Some z
own_place k all ds p z =
    let zs = node_names k all ds in
    let long : length (node_names k all ds ++ map identifier (pattern_variables p)) ≡ length (list_nodes all ds) + length (pattern_variables p) =
    length-append (node_names k all ds) (map identifier (pattern_variables p)) ∙ (let a = names_long k all ds in let b = length-map (pattern_variables p) identifier in omega arith) in
    subst (λ us. slice_get us (length (list_nodes all ds) + length (pattern_variables p)) ≡ Some z) (append_assoc (node_names k all ds) (map identifier (pattern_variables p)) (z ∷ []))
    (subst (λ i. slice_get ((node_names k all ds ++ map identifier (pattern_variables p)) ++ z ∷ []) i ≡ Some z) long (get-push_new (node_names k all ds ++ map identifier (pattern_variables p)) z))

pub owner_first : (k : Known) (all ds : Declarations) (j : ℕ) → owner all ds ≡ Some j → (x : Identifier) × (slice_get (node_names k all ds) j ≡ Some x) × FirstIs x (bindings_of k all ds)
owner_first k all no_declarations j e = none_some_ e
owner_first k all (more_declarations (data_declaration n ps cs) ds) j e = none_some_ e
owner_first k all (more_declarations (newtype_declaration n ps c) ds) j e = none_some_ e
owner_first k all (more_declarations (synonym_declaration n ps t) ds) j e = none_some_ e
owner_first k all (more_declarations (signature ns t) ds) j e = none_some_ e
owner_first k all (more_declarations (clause n ps r) ds) j e =
    clause_first (is_continued n.text ps ds) (signature_of n.text all) (owner all ds) (node_names k all ds) (length (list_nodes all ds)) j (identifier (variable_of n)) (λ cs. typed.clause (patterns_of k ps) (right_sides_of k r) (where_of k r) cs) (typed.clause (patterns_of k ps) (right_sides_of k r) (where_of k r) typed.no_clause) (bindings_of k all ds) (names_long k all ds)
    (λ h. owner_first k all ds j h) e
owner_first k all (more_declarations (pattern_binding l c p r) ds) j e = (binding k.home (declaration_count ds), subst (λ i. slice_get (node_names k all ds ++ (map identifier (pattern_variables p) ++ binding k.home (declaration_count ds) ∷ [])) i ≡ Some (binding k.home (declaration_count ds))) (some_injective e) (own_place k all ds p (binding k.home (declaration_count ds))), refl)

-- the first name of a list that begins with a clause is signed, or an owner's

abbrev pub HeadIsClause : Declarations → Type 0
HeadIsClause no_declarations = ⊥
HeadIsClause (more_declarations (data_declaration n ps cs) ds) = ⊥
HeadIsClause (more_declarations (newtype_declaration n ps c) ds) = ⊥
HeadIsClause (more_declarations (synonym_declaration n ps t) ds) = ⊥
HeadIsClause (more_declarations (signature ns t) ds) = ⊥
HeadIsClause (more_declarations (clause n ps r) ds) = Unit {0}
HeadIsClause (more_declarations (pattern_binding l c p r) ds) = ⊥

pub head_continued : (x : List ℕ) (ps : Patterns) (ds : Declarations) → is_continued x ps ds ≡ true → HeadIsClause ds
head_continued x ps no_declarations e = both_ways false refl e
head_continued x ps (more_declarations (data_declaration n qs cs) ds) e = both_ways false refl e
head_continued x ps (more_declarations (newtype_declaration n qs c) ds) e = both_ways false refl e
head_continued x ps (more_declarations (synonym_declaration n qs t) ds) e = both_ways false refl e
head_continued x ps (more_declarations (signature ns t) ds) e = both_ways false refl e
head_continued x ps (more_declarations (clause n qs r) ds) e = tt
head_continued x ps (more_declarations (pattern_binding l c p r) ds) e = both_ways false refl e

pub signed_add : (x : Identifier) (c : typed.Clauses → typed.Clauses) (rest : typed.Bindings) → IsSigned x rest → IsSigned x (add_clause c rest)
signed_add x c typed.no_binding h = h
signed_add x c (typed.unsigned z cs ds) h = h
signed_add x c (typed.signed z s cs ds) h = h
signed_add x c (typed.matched z p cs ds) h = h

clause_owner : (b : Bool) (o : Option Monotype) (behind : Option ℕ) (count : ℕ) (x n : Identifier) (c : typed.Clauses → typed.Clauses) (cs : typed.Clauses) (rest : typed.Bindings) →
    (b ≡ true → FirstIs x rest → IsSigned x rest ⊎ ((j : ℕ) × (behind ≡ Some j))) → FirstIs x (cond b (add_clause c rest) (bound_by n o cs rest)) →
    IsSigned x (cond b (add_clause c rest) (bound_by n o cs rest)) ⊎ ((j : ℕ) × (cond b behind (cond (is_some o) None (Some count)) ≡ Some j))
clause_owner true o behind count x n c cs rest f h = ⊎_elim (λ s. inl (signed_add x c rest s)) inr (f refl ((first_add x c rest).0 h))
clause_owner false (Some s) behind count x n c cs rest f h = inl (inl h)
clause_owner false None behind count x n c cs rest f h = inr (count, refl)

pub head_owner : (k : Known) (all ds : Declarations) (x : Identifier) → HeadIsClause ds → FirstIs x (bindings_of k all ds) → IsSigned x (bindings_of k all ds) ⊎ ((j : ℕ) × (owner all ds ≡ Some j))
head_owner k all no_declarations x h f = absurd h
head_owner k all (more_declarations (data_declaration n ps cs) ds) x h f = absurd h
head_owner k all (more_declarations (newtype_declaration n ps c) ds) x h f = absurd h
head_owner k all (more_declarations (synonym_declaration n ps t) ds) x h f = absurd h
head_owner k all (more_declarations (signature ns t) ds) x h f = absurd h
head_owner k all (more_declarations (clause n ps r) ds) x h f =
    clause_owner (is_continued n.text ps ds) (signature_of n.text all) (owner all ds) (length (list_nodes all ds)) x (identifier (variable_of n)) (λ cs. typed.clause (patterns_of k ps) (right_sides_of k r) (where_of k r) cs) (typed.clause (patterns_of k ps) (right_sides_of k r) (where_of k r) typed.no_clause) (bindings_of k all ds)
    (λ e g. head_owner k all ds x (head_continued n.text ps ds e) g) f
head_owner k all (more_declarations (pattern_binding l c p r) ds) x h f = absurd h
