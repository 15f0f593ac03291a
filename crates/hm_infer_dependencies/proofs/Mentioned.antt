-- References over trees are the mentions of the typing's syntax.
use Rattle.std.proofs.Common.{◌≡◌, ℕ, Bool, true, false, cond, List, [], ◌∷◌, ◌++◌, map, Option, Some, None, ◌⊎◌, ⊎_elim, inl, inr, refl, sym, ap, ◌∙◌, subst, ◌↔◌}
use Rattle.std.proofs.lemmas.Bool.{both_ways}
use Rattle.hm_typing.specs.Names.{Identifier, local, global, binding, IsOneOf}
use Rattle.hm_typing.specs.Schemes.{Monotype}
use Rattle.hm_typing.specs.Syntax as typed
use Rattle.hm_typing.specs.Mentions.{Mentions, ExpressionsMention, ClausesMention, RightSidesMention, BindingsMention}
use Rattle.hm_syntax.specs.Trees.{Pattern, variable_pattern, bound_pattern, constructor_pattern, literal_pattern, wildcard_pattern, tuple_pattern, list_pattern, lazy_pattern, Patterns, no_patterns, more_patterns, Expression, variable_expression, constructor_expression, literal_expression, application, lambda, let_expression, if_expression, case_expression, tuple_expression, list_expression, typed_expression, Expressions, no_expressions, more_expressions, data_declaration, newtype_declaration, synonym_declaration, signature, clause, pattern_binding, Declarations, no_declarations, more_declarations, RightSide, right_side, Bodies, no_bodies, plain_body, guarded_body, alternative, Alternatives, no_alternatives, more_alternatives}
use Rattle.hm_names.specs.Syntax.{Known, name_in, pattern_of, patterns_of, expression_of, expressions_of, alternatives_of, right_sides_of, where_of, bodies_of, bindings_of, is_continued, signature_of, add_clause, bound_by, declaration_count}
use Rattle.hm_names_keys.specs.Variables.{Variable, variable_of, identifier}
use Rattle.hm_infer_dependencies.specs.References.{pattern_variables, patterns_variables, list_variables, Refers, ExpressionsRefer, DeclarationsRefer, RightSideRefers, BodiesRefer, AlternativesRefer}
use Rattle.hm_names_keys.proofs.Identifiers.{identifier_injective}
use Rattle.hm_infer_dependencies.proofs.Walking.{among-left, among-right, among-cases}

-- names

abbrev pub IsBinding : Identifier → Type 0
IsBinding (local x) = ⊥
IsBinding (global e) = ⊥
IsBinding (binding m i) = Unit {0}

pub no_binding_name : (q : Option (List ℕ)) (x m : List ℕ) (i : ℕ) → ¬ (name_in q x ≡ binding m i)
no_binding_name None x m i e = subst IsBinding (sym e) tt
no_binding_name (Some q) x m i e = subst IsBinding (sym e) tt

pub among_map : (x : Variable) (xs : List Variable) → IsOneOf (identifier x) (map identifier xs) ↔ IsOneOf x xs
among_map x [] = ((λ o. o), (λ o. o))
among_map x (y ∷ ys) =
    let h = among_map x ys in (
      (λ o. ⊎_elim (λ e. inl (identifier_injective x y e)) (λ k. inr (h.0 k)) o),
      (λ o. ⊎_elim (λ e. inl (ap identifier e)) (λ k. inr (h.1 k)) o),
    )

map_append : (xs ys : List Variable) → map identifier (xs ++ ys) ≡ map identifier xs ++ map identifier ys
map_append [] ys = refl
map_append (x ∷ xs) ys = ap (λ zs. identifier x ∷ zs) (map_append xs ys)

mutual
  pub pattern_same : (k : Known) (p : Pattern) → typed.pattern_names (pattern_of k p) ≡ map identifier (pattern_variables p)
  pattern_same k (variable_pattern n) = refl
  pattern_same k (bound_pattern n p) = ap (λ zs. identifier (variable_of n) ∷ zs) (pattern_same k p)
  pattern_same k (constructor_pattern n ps) = patterns_same k ps
  pattern_same k (literal_pattern l) = refl
  pattern_same k wildcard_pattern = refl
  pattern_same k (tuple_pattern ps) = patterns_same k ps
  pattern_same k (list_pattern ps) = patterns_same k ps
  pattern_same k (lazy_pattern p) = pattern_same k p

  pub patterns_same : (k : Known) (ps : Patterns) → typed.patterns_names (patterns_of k ps) ≡ map identifier (patterns_variables ps)
  patterns_same k no_patterns = refl
  patterns_same k (more_patterns p ps) = ap (λ zs. zs ++ typed.patterns_names (patterns_of k ps)) (pattern_same k p) ∙ (ap (λ zs. map identifier (pattern_variables p) ++ zs) (patterns_same k ps) ∙ sym (map_append (pattern_variables p) (patterns_variables ps)))

pub patterns_among : (k : Known) (y : Variable) (ps : Patterns) → IsOneOf (identifier y) (typed.patterns_names (patterns_of k ps)) ↔ IsOneOf y (patterns_variables ps)
patterns_among k y ps = subst (λ zs. IsOneOf (identifier y) zs ↔ IsOneOf y (patterns_variables ps)) (sym (patterns_same k ps)) (among_map y (patterns_variables ps))

pub pattern_among : (k : Known) (y : Variable) (p : Pattern) → IsOneOf (identifier y) (typed.pattern_names (pattern_of k p)) ↔ IsOneOf y (pattern_variables p)
pattern_among k y p = subst (λ zs. IsOneOf (identifier y) zs ↔ IsOneOf y (pattern_variables p)) (sym (pattern_same k p)) (among_map y (pattern_variables p))

-- binding lists

names_add : (c : typed.Clauses → typed.Clauses) (rest : typed.Bindings) → typed.names (add_clause c rest) ≡ typed.names rest
names_add c typed.no_binding = refl
names_add c (typed.unsigned x cs ds) = refl
names_add c (typed.signed x s cs ds) = refl
names_add c (typed.matched x p cs ds) = refl

names_bound : (x : Identifier) (o : Option Monotype) (cs : typed.Clauses) (rest : typed.Bindings) → typed.names (bound_by x o cs rest) ≡ x ∷ typed.names rest
names_bound x None cs rest = refl
names_bound x (Some s) cs rest = refl

clause_among : (b : Bool) (y : Variable) (x : Variable) (o : Option Monotype) (c : typed.Clauses → typed.Clauses) (cs : typed.Clauses) (rest : typed.Bindings) (vs : List Variable) →
    IsOneOf (identifier y) (typed.names rest) ↔ IsOneOf y vs → IsOneOf (identifier y) (typed.names (cond b (add_clause c rest) (bound_by (identifier x) o cs rest))) ↔ IsOneOf y (cond b [] (x ∷ []) ++ vs)
clause_among true y x o c cs rest vs h = subst (λ zs. IsOneOf (identifier y) zs ↔ IsOneOf y vs) (sym (names_add c rest)) h
clause_among false y x o c cs rest vs h = subst (λ zs. IsOneOf (identifier y) zs ↔ IsOneOf y (x ∷ vs)) (sym (names_bound (identifier x) o cs rest)) (
  (λ s. ⊎_elim (λ e. inl (identifier_injective y x e)) (λ k. inr (h.0 k)) s),
  (λ s. ⊎_elim (λ e. inl (ap identifier e)) (λ k. inr (h.1 k)) s),
)

matched_among : (k : Known) (y : Variable) (m : List ℕ) (i : ℕ) (p : Pattern) (rest : List Identifier) (vs : List Variable) → IsOneOf (identifier y) rest ↔ IsOneOf y vs → IsOneOf (identifier y) (typed.matched_names (binding m i) (pattern_of k p) ++ rest) ↔ IsOneOf y (pattern_variables p ++ vs)
matched_among k y m i p rest vs h =
    let f = pattern_among k y p in (
      (λ s. ⊎_elim
          (λ a. ⊎_elim (λ b. among-left y (pattern_variables p) vs (f.0 b)) (λ b. ⊎_elim (λ e. absurd (no_binding_name y.qualifier y.text m i e)) (λ o. absurd o) b) (among-cases (identifier y) (typed.pattern_names (pattern_of k p)) (binding m i ∷ []) a))
          (λ a. among-right y (pattern_variables p) vs (h.0 a))
          (among-cases (identifier y) (typed.matched_names (binding m i) (pattern_of k p)) rest s)),
      (λ s. ⊎_elim
          (λ a. among-left (identifier y) (typed.matched_names (binding m i) (pattern_of k p)) rest (among-left (identifier y) (typed.pattern_names (pattern_of k p)) (binding m i ∷ []) (f.1 a)))
          (λ a. among-right (identifier y) (typed.matched_names (binding m i) (pattern_of k p)) rest (h.1 a))
          (among-cases y (pattern_variables p) vs s)),
    )

pub names_among : (k : Known) (y : Variable) (all ds : Declarations) → IsOneOf (identifier y) (typed.names (bindings_of k all ds)) ↔ IsOneOf y (list_variables ds)
names_among k y all no_declarations = ((λ o. o), (λ o. o))
names_among k y all (more_declarations (data_declaration n ps cs) ds) = names_among k y all ds
names_among k y all (more_declarations (newtype_declaration n ps c) ds) = names_among k y all ds
names_among k y all (more_declarations (synonym_declaration n ps t) ds) = names_among k y all ds
names_among k y all (more_declarations (signature ns t) ds) = names_among k y all ds
names_among k y all (more_declarations (clause n ps r) ds) =
    clause_among (is_continued n.text ps ds) y (variable_of n) (signature_of n.text all) (λ cs. typed.clause (patterns_of k ps) (right_sides_of k r) (where_of k r) cs) (typed.clause (patterns_of k ps) (right_sides_of k r) (where_of k r) typed.no_clause) (bindings_of k all ds) (list_variables ds) (names_among k y all ds)
names_among k y all (more_declarations (pattern_binding l c p r) ds) = matched_among k y k.home (declaration_count ds) p (typed.names (bindings_of k all ds)) (list_variables ds) (names_among k y all ds)

-- a binding of clauses comes first

abbrev pub BeginsWithClauses : typed.Bindings → Type 0
BeginsWithClauses typed.no_binding = ⊥
BeginsWithClauses (typed.unsigned x cs ds) = Unit {0}
BeginsWithClauses (typed.signed x s cs ds) = Unit {0}
BeginsWithClauses (typed.matched x p cs ds) = ⊥

begins_cond : (b : Bool) (x : Identifier) (o : Option Monotype) (c : typed.Clauses → typed.Clauses) (cs : typed.Clauses) (rest : typed.Bindings) → (b ≡ true → BeginsWithClauses rest) → BeginsWithClauses (cond b (add_clause c rest) (bound_by x o cs rest))
begins_cond true x o c cs typed.no_binding f = f refl
begins_cond true x o c cs (typed.unsigned z ds rest) f = tt
begins_cond true x o c cs (typed.signed z s ds rest) f = tt
begins_cond true x o c cs (typed.matched z p ds rest) f = f refl
begins_cond false x None c cs rest f = tt
begins_cond false x (Some s) c cs rest f = tt

pub begins : (k : Known) (all ds : Declarations) (x : List ℕ) (ps : Patterns) → is_continued x ps ds ≡ true → BeginsWithClauses (bindings_of k all ds)
begins k all no_declarations x ps e = absurd (both_ways false refl e)
begins k all (more_declarations (data_declaration n qs cs) ds) x ps e = absurd (both_ways false refl e)
begins k all (more_declarations (newtype_declaration n qs c) ds) x ps e = absurd (both_ways false refl e)
begins k all (more_declarations (synonym_declaration n qs t) ds) x ps e = absurd (both_ways false refl e)
begins k all (more_declarations (signature ns t) ds) x ps e = absurd (both_ways false refl e)
begins k all (more_declarations (clause n qs r) ds) x ps e =
    begins_cond (is_continued n.text qs ds) (name_in n.qualifier n.text) (signature_of n.text all) (λ cs. typed.clause (patterns_of k qs) (right_sides_of k r) (where_of k r) cs) (typed.clause (patterns_of k qs) (right_sides_of k r) (where_of k r) typed.no_clause) (bindings_of k all ds) (begins k all ds n.text qs)
begins k all (more_declarations (pattern_binding l c p r) ds) x ps e = absurd (both_ways false refl e)

-- what a clause adds to the mentions of a list
abbrev pub ClauseMentions : Identifier → typed.Patterns → typed.RightSides → typed.Bindings → Type 0
ClauseMentions y ps gs ds = ¬ (IsOneOf y (typed.patterns_names ps)) × (¬ (IsOneOf y (typed.names ds)) × (RightSidesMention y gs ⊎ BindingsMention y ds))

shuffle : {A B C : Type 0} → ((A ⊎ B) ⊎ C) → A ⊎ (B ⊎ C)
shuffle s = ⊎_elim (λ h. ⊎_elim inl (λ b. inr (inl b)) h) (λ c. inr (inr c)) s

unshuffle : {A B C : Type 0} → A ⊎ (B ⊎ C) → ((A ⊎ B) ⊎ C)
unshuffle s = ⊎_elim (λ a. inl (inl a)) (λ h. ⊎_elim (λ b. inl (inr b)) inr h) s

pub clause_mentions : (b : Bool) (y x : Identifier) (o : Option Monotype) (ps : typed.Patterns) (gs : typed.RightSides) (ws : typed.Bindings) (rest : typed.Bindings) → (b ≡ true → BeginsWithClauses rest) →
    BindingsMention y (cond b (add_clause (λ cs. typed.clause ps gs ws cs) rest) (bound_by x o (typed.clause ps gs ws typed.no_clause) rest)) ↔ (ClauseMentions y ps gs ws ⊎ BindingsMention y rest)
clause_mentions true y x o ps gs ws typed.no_binding f = absurd (f refl)
clause_mentions true y x o ps gs ws (typed.unsigned z cs ds) f = (shuffle, unshuffle)
clause_mentions true y x o ps gs ws (typed.signed z s cs ds) f = (shuffle, unshuffle)
clause_mentions true y x o ps gs ws (typed.matched z p cs ds) f = absurd (f refl)
clause_mentions false y x None ps gs ws rest f = ((λ s. ⊎_elim (λ h. ⊎_elim inl (λ z. absurd z) h) inr s), (λ s. ⊎_elim (λ h. inl (inl h)) inr s))
clause_mentions false y x (Some t) ps gs ws rest f = ((λ s. ⊎_elim (λ h. ⊎_elim inl (λ z. absurd z) h) inr s), (λ s. ⊎_elim (λ h. inl (inl h)) inr s))

-- combinators
either_same : {A B C D : Type 0} → (A ↔ B) → (C ↔ D) → (A ⊎ C) ↔ (B ⊎ D)
either_same f g = ((λ s. ⊎_elim (λ a. inl (f.0 a)) (λ c. inr (g.0 c)) s), (λ s. ⊎_elim (λ b. inl (f.1 b)) (λ d. inr (g.1 d)) s))

outside_same : {A B C D : Type 0} → (A ↔ B) → (C ↔ D) → (¬ A × C) ↔ (¬ B × D)
outside_same f g = ((λ h. ((λ b. h.0 (f.1 b)), g.0 h.1)), (λ h. ((λ a. h.0 (f.0 a)), g.1 h.1)))

chain : {A B C : Type 0} → (A ↔ B) → (B ↔ C) → A ↔ C
chain f g = ((λ a. g.0 (f.0 a)), (λ c. f.1 (g.1 c)))

or_nothing : {A : Type 0} → (A ⊎ ⊥) ↔ A
or_nothing = ((λ s. ⊎_elim (λ a. a) (λ z. absurd z) s), (λ a. inl a))

one_pattern : (k : Known) (y : Variable) (p : Pattern) → IsOneOf (identifier y) (typed.pattern_names (pattern_of k p) ++ []) ↔ IsOneOf y (pattern_variables p)
one_pattern k y p = chain ((λ o. ⊎_elim (λ a. a) (λ z. absurd z) (among-cases (identifier y) (typed.pattern_names (pattern_of k p)) [] o)), (λ o. among-left (identifier y) (typed.pattern_names (pattern_of k p)) [] o)) (pattern_among k y p)

mutual
  pub refers_same : (k : Known) (y : Variable) (e : Expression) → Mentions (identifier y) (expression_of k e) ↔ Refers y e
  refers_same k y (variable_expression n) = ((λ e. identifier_injective y (variable_of n) e), (λ e. ap identifier e))
  refers_same k y (constructor_expression n) = ((λ h. h), (λ h. h))
  refers_same k y (literal_expression l) = ((λ h. h), (λ h. h))
  refers_same k y (application f e) = either_same (refers_same k y f) (refers_same k y e)
  refers_same k y (lambda ps e) = outside_same (patterns_among k y ps) (refers_same k y e)
  refers_same k y (let_expression ds e) = outside_same (names_among k y ds ds) (either_same (declarations_same k y ds ds) (refers_same k y e))
  refers_same k y (if_expression a b c) = either_same (refers_same k y a) (either_same (refers_same k y b) (refers_same k y c))
  refers_same k y (case_expression e rest) = either_same (refers_same k y e) (alternatives_same k y rest)
  refers_same k y (tuple_expression es) = expressions_same k y es
  refers_same k y (list_expression es) = expressions_same k y es
  refers_same k y (typed_expression e t) = refers_same k y e

  pub expressions_same : (k : Known) (y : Variable) (es : Expressions) → ExpressionsMention (identifier y) (expressions_of k es) ↔ ExpressionsRefer y es
  expressions_same k y no_expressions = ((λ h. h), (λ h. h))
  expressions_same k y (more_expressions e es) = either_same (refers_same k y e) (expressions_same k y es)

  pub alternatives_same : (k : Known) (y : Variable) (rest : Alternatives) → ClausesMention (identifier y) (alternatives_of k rest) ↔ AlternativesRefer y rest
  alternatives_same k y no_alternatives = ((λ h. h), (λ h. h))
  alternatives_same k y (more_alternatives (alternative p r) rest) = either_same (outside_same (one_pattern k y p) (right_side_same k y r)) (alternatives_same k y rest)

  pub right_side_same : (k : Known) (y : Variable) (r : RightSide) → (¬ (IsOneOf (identifier y) (typed.names (where_of k r))) × (RightSidesMention (identifier y) (right_sides_of k r) ⊎ BindingsMention (identifier y) (where_of k r))) ↔ RightSideRefers y r
  right_side_same k y (right_side gs ds) = outside_same (names_among k y ds ds) (either_same (bodies_same k y gs) (declarations_same k y ds ds))

  pub bodies_same : (k : Known) (y : Variable) (gs : Bodies) → RightSidesMention (identifier y) (bodies_of k gs) ↔ BodiesRefer y gs
  bodies_same k y no_bodies = ((λ h. h), (λ h. h))
  bodies_same k y (plain_body e gs) = either_same (refers_same k y e) (bodies_same k y gs)
  bodies_same k y (guarded_body g e gs) = either_same (refers_same k y g) (either_same (refers_same k y e) (bodies_same k y gs))

  pub declarations_same : (k : Known) (y : Variable) (all ds : Declarations) → BindingsMention (identifier y) (bindings_of k all ds) ↔ DeclarationsRefer y ds
  declarations_same k y all no_declarations = ((λ h. h), (λ h. h))
  declarations_same k y all (more_declarations (data_declaration n ps cs) ds) = chain (declarations_same k y all ds) ((λ h. inr h), (λ s. ⊎_elim (λ z. absurd z) (λ h. h) s))
  declarations_same k y all (more_declarations (newtype_declaration n ps c) ds) = chain (declarations_same k y all ds) ((λ h. inr h), (λ s. ⊎_elim (λ z. absurd z) (λ h. h) s))
  declarations_same k y all (more_declarations (synonym_declaration n ps t) ds) = chain (declarations_same k y all ds) ((λ h. inr h), (λ s. ⊎_elim (λ z. absurd z) (λ h. h) s))
  declarations_same k y all (more_declarations (signature ns t) ds) = chain (declarations_same k y all ds) ((λ h. inr h), (λ s. ⊎_elim (λ z. absurd z) (λ h. h) s))
  declarations_same k y all (more_declarations (clause n ps r) ds) =
      chain (clause_mentions (is_continued n.text ps ds) (identifier y) (name_in n.qualifier n.text) (signature_of n.text all) (patterns_of k ps) (right_sides_of k r) (where_of k r) (bindings_of k all ds) (begins k all ds n.text ps))
      (either_same (outside_same (patterns_among k y ps) (right_side_same k y r)) (declarations_same k y all ds))
  declarations_same k y all (more_declarations (pattern_binding l c p r) ds) =
      either_same (chain or_nothing (chain ((λ h. h.1), (λ h. ((λ o. o), h))) (right_side_same k y r))) (declarations_same k y all ds)
