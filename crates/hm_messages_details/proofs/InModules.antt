-- What states something of a part of a module states it somewhere in the module.
use Rattle.std.proofs.Common.{◌⊎◌, List, [], ◌∷◌, ◌++◌, ⊎_elim, inl, inr, subst, sym, append_assoc}
use Rattle.std.proofs.lemmas.List.{append-nil}
use Rattle.std.specs.Prelude.{ℕ, Contains}
use Rattle.hm_types.specs.Interfaces.{Exports as Interface}
use Rattle.hm_lex.specs.declared.token.Place.{Place}
use Rattle.hm_syntax.specs.Trees.{TypeTree, variable_type, constructor_type, function_type, tuple_type, list_type, unit_type, TypeTrees, no_types, more_types, DataConstructor, data_constructor, DataConstructors, no_constructors, more_constructors, Pattern, variable_pattern, bound_pattern, constructor_pattern, literal_pattern, wildcard_pattern, tuple_pattern, list_pattern, lazy_pattern, Patterns, no_patterns, more_patterns, Expression, variable_expression, constructor_expression, literal_expression, application, lambda, let_expression, if_expression, case_expression, tuple_expression, list_expression, typed_expression, Expressions, no_expressions, more_expressions, Declaration, data_declaration, newtype_declaration, synonym_declaration, signature, clause, pattern_binding, Declarations, no_declarations, more_declarations, RightSide, right_side, Bodies, no_bodies, plain_body, guarded_body, alternative, Alternatives, no_alternatives, more_alternatives}
use Rattle.hm_syntax.specs.Lists.{declarations}
use Rattle.hm_syntax.specs.declared.ast.Module.{Module}
use Rattle.hm_names.specs.declared.faults.Fault.{Fault}
use Rattle.hm_names.specs.Walk.{Rule, Node, Somewhere, at_expression, at_pattern, at_type, at_head, at_parameters, at_list, InType, InTypes, InConstructor, InConstructors, InPattern, InPatterns, InHead, InExpression, InExpressions, InAlternatives, InRightSide, InBodies, InDeclarations, InDeclaration, InTop}
use Rattle.hm_names.specs.Variables.{type_variables, constructor_variables, constructors_variables}
use Rattle.hm_names.proofs.Members.{none_in, cases}
use Rattle.hm_messages_details.specs.Counts.{HasArguments, of_type, of_constructor, HasLengthsAt}
use Rattle.hm_messages_details.specs.Firsts.{IsFirstOf}
use Rattle.hm_messages_details.specs.NearBindings.{HasNearBinding, IsNearBindingAt}
use Rattle.hm_messages_details.specs.PatternBindings.{HasPatternBound, IsPatternBoundAt}
use Rattle.hm_messages_details.specs.Roles.{IsRoleAt, a_variable, a_constructor, a_pattern as a_pattern_role, a_type as a_type_role, a_type_variable}
use Rattle.hm_messages_details.specs.declared.role.Role.{Role}
use Rattle.hm_messages_details.specs.declared.role.Role.TheVariants.{Variable, Constructor, TypeVariable}
use Rattle.hm_messages_details.specs.Scopes.{Scopes, Occurs, locals_at, locals_of, open_after, outer_of}
use Rattle.hm_messages_details.specs.Parts.{ModulePart, a_list, a_head, a_row, a_pattern, a_type, a_use, an_end, ended, IsPart, list_is, head_is, parameters_are, pattern_is, type_is, variable_is, constructor_is, type_variable_is, type_parts, types_parts, constructor_parts, constructors_parts, pattern_parts, patterns_parts, head_parts, expression_parts, expressions_parts, alternative_parts, alternatives_parts, right_side_parts, bodies_parts, declarations_parts, declaration_parts, module_parts, IsFirstIn, IsPartRole, HasArgumentsIn, HasLengthsIn, IsNearBindingIn, IsPatternBoundIn}

swap : {A B : Type 0} → A ⊎ B → B ⊎ A
swap (inl a) = inr a
swap (inr b) = inl b

grouped : {A B C : Type 0} → (A ⊎ B) ⊎ C → A ⊎ (B ⊎ C)
grouped (inl (inl a)) = inl a
grouped (inl (inr b)) = inr (inl b)
grouped (inr c) = inr (inr c)

first_as : {A B C : Type 0} → (A → B) → A ⊎ C → B ⊎ C
first_as f (inl a) = inl (f a)
first_as f (inr c) = inr c

-- R occurs in a tree, whose node then is as Q says, or it occurs after the tree, where the scopes are those of before
module _ (Q : Rule) (R : Scopes → ModulePart → Type 0) (h : (ss : Scopes) (k : Node) (p : ModulePart) → IsPart k p → R ss p → Q (locals_at ss p) k) (ends : (ss : Scopes) → ¬ (R ss an_end)) where
  one : {A B : Type 0} (ss ts : Scopes) (p : ModulePart) (ps rest : List ModulePart) → (R ss p → A) → (Occurs R (open_after ss p) ps → B ⊎ Occurs R ts rest) → Occurs R ss (p ∷ ps) → (A ⊎ B) ⊎ Occurs R ts rest
  one ss ts p ps rest f g (inl r) = inl (inl (f r))
  one ss ts p ps rest f g (inr o) = first_as (λ b. inr b) (g o)

  both : {A B : Type 0} (ss ts us : Scopes) (ps qs rest : List ModulePart) → (Occurs R ss (ps ++ (qs ++ rest)) → A ⊎ Occurs R ts (qs ++ rest)) → (Occurs R ts (qs ++ rest) → B ⊎ Occurs R us rest) → Occurs R ss ((ps ++ qs) ++ rest) → (A ⊎ B) ⊎ Occurs R us rest
  both ss ts us ps qs rest f g o = ⊎_elim (λ a. inl (inl a)) (λ q. first_as (λ b. inr b) (g q)) (f (subst (Occurs R ss) (append_assoc ps qs rest) o))

  -- the end of the innermost scope
  outside : (ss : Scopes) (rest : List ModulePart) → Occurs R ss (an_end ∷ rest) → Occurs R (outer_of ss) rest
  outside ss rest (inl r) = absurd (ends ss r)
  outside ss rest (inr o) = o

  closed : {A : Type 0} (ss ts : Scopes) (ps rest : List ModulePart) → (Occurs R ss (ps ++ (an_end ∷ rest)) → A ⊎ Occurs R ts (an_end ∷ rest)) → Occurs R ss (ended ps ++ rest) → A ⊎ Occurs R (outer_of ts) rest
  closed ss ts ps rest f o = ⊎_elim (λ a. inl a) (λ q. inr (outside ts rest q)) (f (subst (Occurs R ss) (append_assoc ps (an_end ∷ []) rest) o))

  mutual
    in_type : (ss : Scopes) (t : TypeTree) (rest : List ModulePart) → Occurs R ss (type_parts t ++ rest) → InType Q (locals_of ss) t ⊎ Occurs R ss rest
    in_type ss (variable_type n) rest o = first_as (λ r. h ss (at_type (variable_type n)) (a_use TypeVariable n) type_variable_is r) o
    in_type ss (constructor_type n ts) rest o = one ss ss (a_type n ts) (types_parts ts ++ rest) rest (λ r. h ss (at_type (constructor_type n ts)) (a_type n ts) type_is r) (λ q. in_types ss ts rest q) o
    in_type ss (function_type a b) rest o = both ss ss ss (type_parts a) (type_parts b) rest (λ q. in_type ss a (type_parts b ++ rest) q) (λ q. in_type ss b rest q) o
    in_type ss (tuple_type ts) rest o = in_types ss ts rest o
    in_type ss (list_type t) rest o = in_type ss t rest o
    in_type ss unit_type rest o = inr o

    in_types : (ss : Scopes) (ts : TypeTrees) (rest : List ModulePart) → Occurs R ss (types_parts ts ++ rest) → InTypes Q (locals_of ss) ts ⊎ Occurs R ss rest
    in_types ss no_types rest o = inr o
    in_types ss (more_types t ts) rest o = both ss ss ss (type_parts t) (types_parts ts) rest (λ q. in_type ss t (types_parts ts ++ rest) q) (λ q. in_types ss ts rest q) o

  in_constructor : (ss : Scopes) (d : DataConstructor) (rest : List ModulePart) → Occurs R ss (constructor_parts d ++ rest) → InConstructor Q (locals_of ss) d ⊎ Occurs R ss rest
  in_constructor ss (data_constructor n ts) rest o = in_types ss ts rest o

  in_constructors : (ss : Scopes) (ds : DataConstructors) (rest : List ModulePart) → Occurs R ss (constructors_parts ds ++ rest) → InConstructors Q (locals_of ss) ds ⊎ Occurs R ss rest
  in_constructors ss no_constructors rest o = inr o
  in_constructors ss (more_constructors d ds) rest o =
      both ss ss ss (constructor_parts d) (constructors_parts ds) rest (λ q. in_constructor ss d (constructors_parts ds ++ rest) q) (λ q. in_constructors ss ds rest q) o

  mutual
    in_pattern : (ss : Scopes) (t : Pattern) (rest : List ModulePart) → Occurs R ss (pattern_parts t ++ rest) → InPattern Q (locals_of ss) t ⊎ Occurs R ss rest
    in_pattern ss (variable_pattern n) rest o = inr o
    in_pattern ss (bound_pattern n t) rest o = in_pattern ss t rest o
    in_pattern ss (constructor_pattern n ps) rest o =
        one ss ss (a_pattern n ps) (patterns_parts ps ++ rest) rest (λ r. h ss (at_pattern (constructor_pattern n ps)) (a_pattern n ps) pattern_is r) (λ q. in_patterns ss ps rest q) o
    in_pattern ss (literal_pattern l) rest o = inr o
    in_pattern ss wildcard_pattern rest o = inr o
    in_pattern ss (tuple_pattern ps) rest o = in_patterns ss ps rest o
    in_pattern ss (list_pattern ps) rest o = in_patterns ss ps rest o
    in_pattern ss (lazy_pattern t) rest o = in_pattern ss t rest o

    in_patterns : (ss : Scopes) (ts : Patterns) (rest : List ModulePart) → Occurs R ss (patterns_parts ts ++ rest) → InPatterns Q (locals_of ss) ts ⊎ Occurs R ss rest
    in_patterns ss no_patterns rest o = inr o
    in_patterns ss (more_patterns t ts) rest o = both ss ss ss (pattern_parts t) (patterns_parts ts) rest (λ q. in_pattern ss t (patterns_parts ts ++ rest) q) (λ q. in_patterns ss ts rest q) o

  in_head : (ss : Scopes) (ps : Patterns) (rest : List ModulePart) → Occurs R ss (head_parts ps ++ rest) → InHead Q (locals_of ss) ps ⊎ Occurs R (a_head ps ∷ ss) rest
  in_head ss ps rest o = first_as swap
      (both ss ss (a_head ps ∷ ss) (patterns_parts ps) (a_head ps ∷ []) rest (λ q. in_patterns ss ps (a_head ps ∷ rest) q) (λ q. first_as (λ r. h ss (at_head ps) (a_head ps) head_is r) q) o)

  mutual
    in_expression : (ss : Scopes) (t : Expression) (rest : List ModulePart) → Occurs R ss (expression_parts t ++ rest) → InExpression Q (locals_of ss) t ⊎ Occurs R ss rest
    in_expression ss (variable_expression n) rest o = first_as (λ r. h ss (at_expression (variable_expression n)) (a_use Variable n) variable_is r) o
    in_expression ss (constructor_expression n) rest o = first_as (λ r. h ss (at_expression (constructor_expression n)) (a_use Constructor n) constructor_is r) o
    in_expression ss (literal_expression l) rest o = inr o
    in_expression ss (application f e) rest o = both ss ss ss (expression_parts f) (expression_parts e) rest (λ q. in_expression ss f (expression_parts e ++ rest) q) (λ q. in_expression ss e rest q) o
    in_expression ss (lambda ps e) rest o =
        both ss (a_head ps ∷ ss) ss (head_parts ps) (ended (expression_parts e)) rest (λ q. in_head ss ps (ended (expression_parts e) ++ rest) q)
        (λ q. closed (a_head ps ∷ ss) (a_head ps ∷ ss) (expression_parts e) rest (λ r. in_expression (a_head ps ∷ ss) e (an_end ∷ rest) r) q) o
    in_expression ss (let_expression ds e) rest o =
        both ss (a_list ds ∷ ss) ss (a_list ds ∷ declarations_parts ds) (ended (expression_parts e)) rest
        (λ q. one ss (a_list ds ∷ ss) (a_list ds) (declarations_parts ds ++ (ended (expression_parts e) ++ rest)) (ended (expression_parts e) ++ rest) (λ r. h ss (at_list ds) (a_list ds) list_is r)
        (λ r. in_declarations (a_list ds ∷ ss) ds (ended (expression_parts e) ++ rest) r) q)
        (λ q. closed (a_list ds ∷ ss) (a_list ds ∷ ss) (expression_parts e) rest (λ r. in_expression (a_list ds ∷ ss) e (an_end ∷ rest) r) q) o
    in_expression ss (if_expression a b d) rest o =
        both ss ss ss (expression_parts a) (expression_parts b ++ expression_parts d) rest (λ q. in_expression ss a ((expression_parts b ++ expression_parts d) ++ rest) q)
        (λ q. both ss ss ss (expression_parts b) (expression_parts d) rest (λ r. in_expression ss b (expression_parts d ++ rest) r) (λ r. in_expression ss d rest r) q) o
    in_expression ss (case_expression e bs) rest o =
        both ss ss ss (expression_parts e) (alternatives_parts bs) rest (λ q. in_expression ss e (alternatives_parts bs ++ rest) q) (λ q. in_alternatives ss bs rest q) o
    in_expression ss (tuple_expression es) rest o = in_expressions ss es rest o
    in_expression ss (list_expression es) rest o = in_expressions ss es rest o
    in_expression ss (typed_expression e t) rest o = both ss ss ss (expression_parts e) (type_parts t) rest (λ q. in_expression ss e (type_parts t ++ rest) q) (λ q. in_type ss t rest q) o

    in_expressions : (ss : Scopes) (ts : Expressions) (rest : List ModulePart) → Occurs R ss (expressions_parts ts ++ rest) → InExpressions Q (locals_of ss) ts ⊎ Occurs R ss rest
    in_expressions ss no_expressions rest o = inr o
    in_expressions ss (more_expressions e es) rest o =
        both ss ss ss (expression_parts e) (expressions_parts es) rest (λ q. in_expression ss e (expressions_parts es ++ rest) q) (λ q. in_expressions ss es rest q) o

    in_alternatives : (ss : Scopes) (ts : Alternatives) (rest : List ModulePart) → Occurs R ss (alternatives_parts ts ++ rest) → InAlternatives Q (locals_of ss) ts ⊎ Occurs R ss rest
    in_alternatives ss no_alternatives rest o = inr o
    in_alternatives ss (more_alternatives (alternative t r) bs) rest o =
        let ps : Patterns = more_patterns t no_patterns in
        let after : List ModulePart = alternatives_parts bs ++ rest in
        first_as grouped
        (both ss ss ss (alternative_parts (alternative t r)) (alternatives_parts bs) rest
        (λ q. both ss (a_head ps ∷ ss) ss (head_parts ps) (ended (right_side_parts r)) after (λ s. in_head ss ps (ended (right_side_parts r) ++ after) s)
        (λ s. closed (a_head ps ∷ ss) (a_head ps ∷ ss) (right_side_parts r) after (λ i. in_right_side (a_head ps ∷ ss) r (an_end ∷ after) i) s) q)
        (λ q. in_alternatives ss bs rest q) o)

    in_right_side : (ss : Scopes) (r : RightSide) (rest : List ModulePart) → Occurs R ss (right_side_parts r ++ rest) → InRightSide Q (locals_of ss) r ⊎ Occurs R ss rest
    in_right_side ss (right_side gs ds) rest o = first_as swap
        (both ss (a_list ds ∷ ss) ss (a_list ds ∷ declarations_parts ds) (ended (bodies_parts gs)) rest
        (λ q. one ss (a_list ds ∷ ss) (a_list ds) (declarations_parts ds ++ (ended (bodies_parts gs) ++ rest)) (ended (bodies_parts gs) ++ rest) (λ r. h ss (at_list ds) (a_list ds) list_is r)
        (λ r. in_declarations (a_list ds ∷ ss) ds (ended (bodies_parts gs) ++ rest) r) q)
        (λ q. closed (a_list ds ∷ ss) (a_list ds ∷ ss) (bodies_parts gs) rest (λ r. in_bodies (a_list ds ∷ ss) gs (an_end ∷ rest) r) q) o)

    in_bodies : (ss : Scopes) (gs : Bodies) (rest : List ModulePart) → Occurs R ss (bodies_parts gs ++ rest) → InBodies Q (locals_of ss) gs ⊎ Occurs R ss rest
    in_bodies ss no_bodies rest o = inr o
    in_bodies ss (plain_body e gs) rest o = both ss ss ss (expression_parts e) (bodies_parts gs) rest (λ q. in_expression ss e (bodies_parts gs ++ rest) q) (λ q. in_bodies ss gs rest q) o
    in_bodies ss (guarded_body g e gs) rest o =
        both ss ss ss (expression_parts g) (expression_parts e ++ bodies_parts gs) rest (λ q. in_expression ss g ((expression_parts e ++ bodies_parts gs) ++ rest) q)
        (λ q. both ss ss ss (expression_parts e) (bodies_parts gs) rest (λ r. in_expression ss e (bodies_parts gs ++ rest) r) (λ r. in_bodies ss gs rest r) q) o

    in_declarations : (ss : Scopes) (ds : Declarations) (rest : List ModulePart) → Occurs R ss (declarations_parts ds ++ rest) → InDeclarations Q (locals_of ss) ds ⊎ Occurs R ss rest
    in_declarations ss no_declarations rest o = inr o
    in_declarations ss (more_declarations d ds) rest o =
        both ss ss ss (declaration_parts d) (declarations_parts ds) rest (λ q. in_declaration ss d (declarations_parts ds ++ rest) q) (λ q. in_declarations ss ds rest q) o

    in_declaration : (ss : Scopes) (d : Declaration) (rest : List ModulePart) → Occurs R ss (declaration_parts d ++ rest) → InDeclaration Q (locals_of ss) d ⊎ Occurs R ss rest
    in_declaration ss (data_declaration n ps cs) rest o =
        one ss ss (a_row ps) (constructors_parts cs ++ rest) rest (λ r. h ss (at_parameters ps (constructors_variables cs)) (a_row ps) parameters_are r) (λ q. in_constructors ss cs rest q) o
    in_declaration ss (newtype_declaration n ps d) rest o =
        one ss ss (a_row ps) (constructor_parts d ++ rest) rest (λ r. h ss (at_parameters ps (constructor_variables d)) (a_row ps) parameters_are r) (λ q. in_constructor ss d rest q) o
    in_declaration ss (synonym_declaration n ps t) rest o =
        one ss ss (a_row ps) (type_parts t ++ rest) rest (λ r. h ss (at_parameters ps (type_variables t)) (a_row ps) parameters_are r) (λ q. in_type ss t rest q) o
    in_declaration ss (signature ns t) rest o = in_type ss t rest o
    in_declaration ss (clause n ps r) rest o =
        both ss (a_head ps ∷ ss) ss (head_parts ps) (ended (right_side_parts r)) rest (λ q. in_head ss ps (ended (right_side_parts r) ++ rest) q)
        (λ q. closed (a_head ps ∷ ss) (a_head ps ∷ ss) (right_side_parts r) rest (λ i. in_right_side (a_head ps ∷ ss) r (an_end ∷ rest) i) q) o
    in_declaration ss (pattern_binding line column t r) rest o =
        let ps : Patterns = more_patterns t no_patterns in
        both ss ss ss (ended (head_parts ps)) (right_side_parts r) rest
        (λ q. closed ss (a_head ps ∷ ss) (head_parts ps) (right_side_parts r ++ rest) (λ s. in_head ss ps (an_end ∷ (right_side_parts r ++ rest)) s) q)
        (λ q. in_right_side ss r rest q) o

  pub in_all : (ds : Declarations) → Occurs R [] (declarations_parts ds) → InDeclarations Q [] ds
  in_all ds o = ⊎_elim (λ i. i) (λ none. absurd none) (in_declarations [] ds [] (subst (Occurs R []) (sym (append-nil (declarations_parts ds))) o))

-- what is so of a part of a list occurs there, whatever the scopes
occurs : (S : ModulePart → Type 0) (p : ModulePart) → S p → (ss : Scopes) (ps : List ModulePart) → Contains ps p → Occurs (λ ts q. S q) ss ps
occurs S p s ss [] c = absurd (none_in p c)
occurs S p s ss (q ∷ ps) c = ⊎_elim (λ e. inl (subst S e s)) (λ o. inr (occurs S p s (open_after ss q) ps o)) (cases q ps p c)

in_top : (Q : Node → Type 0) (S : ModulePart → Type 0) → ((k : Node) (p : ModulePart) → IsPart k p → S p → Q k) → ¬ (S an_end) → (ds : List Declaration) (p : ModulePart) → Contains (module_parts ds) p → S p → InTop (λ xs k. Q k) ds
in_top Q S h ends ds p c s = ⊎_elim (λ e. inl (h (at_list (declarations ds)) (a_list (declarations ds)) list_is (subst S e s)))
    (λ o. inr (in_all (λ xs k. Q k) (λ ss q. S q) (λ ss k q is t. h k q is t) (λ ss t. ends t) (declarations ds) (occurs S p s [] (declarations_parts (declarations ds)) o)))
    (cases (a_list (declarations ds)) (declarations_parts (declarations ds)) p c)

-- what a part states, its node states

first_of : (f : Fault) (q : Place) {p : ModulePart} {k : Node} → IsPart k p → IsFirstIn p f q → IsFirstOf k f q
first_of f q list_is s = s
first_of f q head_is s = s
first_of f q parameters_are s = s
first_of f q pattern_is s = absurd s
first_of f q type_is s = absurd s
first_of f q variable_is s = absurd s
first_of f q constructor_is s = absurd s
first_of f q type_variable_is s = absurd s

arguments_of : (m : Module) (fs : List Interface) (f : Fault) (here takes : ℕ) {p : ModulePart} {k : Node} → IsPart k p → HasArgumentsIn m fs f here takes p → HasArguments m fs f here takes k
arguments_of m fs f here takes list_is s = absurd s
arguments_of m fs f here takes head_is s = absurd s
arguments_of m fs f here takes parameters_are s = absurd s
arguments_of m fs f here takes pattern_is s = of_constructor s.0 s.1 s.2
arguments_of m fs f here takes type_is s = of_type s.0 s.1 s.2
arguments_of m fs f here takes variable_is s = absurd s
arguments_of m fs f here takes constructor_is s = absurd s
arguments_of m fs f here takes type_variable_is s = absurd s

role_of : (f : Fault) (r : Role) {p : ModulePart} {k : Node} → IsPart k p → IsPartRole p f r → IsRoleAt f r k
role_of f r list_is s = absurd s
role_of f r head_is s = absurd s
role_of f r parameters_are s = absurd s
role_of f r (pattern_is {n} {ps}) s = subst (λ q. IsRoleAt f q (at_pattern (constructor_pattern n ps))) (sym s.0) (a_pattern_role s.1)
role_of f r (type_is {n} {ts}) s = subst (λ q. IsRoleAt f q (at_type (constructor_type n ts))) (sym s.0) (a_type_role s.1)
role_of f r (variable_is {n}) s = subst (λ q. IsRoleAt f q (at_expression (variable_expression n))) (sym s.0) (a_variable s.1)
role_of f r (constructor_is {n}) s = subst (λ q. IsRoleAt f q (at_expression (constructor_expression n))) (sym s.0) (a_constructor s.1)
role_of f r (type_variable_is {n}) s = subst (λ q. IsRoleAt f q (at_type (variable_type n))) (sym s.0) (a_type_variable s.1)

lengths_of : (f : Fault) (here first : ℕ) {p : ModulePart} {k : Node} → IsPart k p → HasLengthsIn f here first p → HasLengthsAt f here first k
lengths_of f here first list_is s = s
lengths_of f here first head_is s = absurd s
lengths_of f here first parameters_are s = absurd s
lengths_of f here first pattern_is s = absurd s
lengths_of f here first type_is s = absurd s
lengths_of f here first variable_is s = absurd s
lengths_of f here first constructor_is s = absurd s
lengths_of f here first type_variable_is s = absurd s

near_of : (f : Fault) (x : List ℕ) {p : ModulePart} {k : Node} → IsPart k p → IsNearBindingIn p f x → IsNearBindingAt k f x
near_of f x list_is s = s
near_of f x head_is s = absurd s
near_of f x parameters_are s = absurd s
near_of f x pattern_is s = absurd s
near_of f x type_is s = absurd s
near_of f x variable_is s = absurd s
near_of f x constructor_is s = absurd s
near_of f x type_variable_is s = absurd s

bound_of : (f : Fault) {p : ModulePart} {k : Node} → IsPart k p → IsPatternBoundIn p f → IsPatternBoundAt k f
bound_of f list_is s = s
bound_of f head_is s = absurd s
bound_of f parameters_are s = absurd s
bound_of f pattern_is s = absurd s
bound_of f type_is s = absurd s
bound_of f variable_is s = absurd s
bound_of f constructor_is s = absurd s
bound_of f type_variable_is s = absurd s

-- and so it stands somewhere in the module

pub somewhere_first : (m : Module) (f : Fault) (q : Place) (p : ModulePart) → Contains (module_parts m.decls) p → IsFirstIn p f q → Somewhere m (λ xs k. IsFirstOf k f q)
somewhere_first m f q p c s = in_top (λ k. IsFirstOf k f q) (λ r. IsFirstIn r f q) (λ k r is t. first_of f q is t) (λ none. none) m.decls p c s

pub somewhere_arguments : (m : Module) (fs : List Interface) (f : Fault) (here takes : ℕ) (p : ModulePart) → Contains (module_parts m.decls) p → HasArgumentsIn m fs f here takes p → Somewhere m (λ xs k. HasArguments m fs f here takes k)
somewhere_arguments m fs f here takes p c s = in_top (λ k. HasArguments m fs f here takes k) (λ r. HasArgumentsIn m fs f here takes r) (λ k r is t. arguments_of m fs f here takes is t) (λ none. none) m.decls p c s

pub somewhere_lengths : (m : Module) (f : Fault) (here first : ℕ) (p : ModulePart) → Contains (module_parts m.decls) p → HasLengthsIn f here first p → Somewhere m (λ xs k. HasLengthsAt f here first k)
somewhere_lengths m f here first p c s = in_top (λ k. HasLengthsAt f here first k) (λ r. HasLengthsIn f here first r) (λ k r is t. lengths_of f here first is t) (λ none. none) m.decls p c s

pub somewhere_near : (m : Module) (f : Fault) (x : List ℕ) (p : ModulePart) → Contains (module_parts m.decls) p → IsNearBindingIn p f x → HasNearBinding m f x
somewhere_near m f x p c s = in_top (λ k. IsNearBindingAt k f x) (λ r. IsNearBindingIn r f x) (λ k r is t. near_of f x is t) (λ none. none) m.decls p c s

pub somewhere_bound : (m : Module) (f : Fault) (p : ModulePart) → Contains (module_parts m.decls) p → IsPatternBoundIn p f → HasPatternBound m f
somewhere_bound m f p c s = in_top (λ k. IsPatternBoundAt k f) (λ r. IsPatternBoundIn r f) (λ k r is t. bound_of f is t) (λ none. none) m.decls p c s

pub somewhere_role : (m : Module) (f : Fault) (r : Role) (p : ModulePart) → Contains (module_parts m.decls) p → IsPartRole p f r → Somewhere m (λ xs k. IsRoleAt f r k)
somewhere_role m f r p c s = in_top (λ k. IsRoleAt f r k) (λ q. IsPartRole q f r) (λ k q is t. role_of f r is t) (λ none. none) m.decls p c s
