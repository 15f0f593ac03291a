-- Each part of a module's declarations has its part in the core, under the same binders.
use Rattle.std.proofs.Common.{◌≡◌, List, [], ◌∷◌, ◌++◌, cond, map, ap₂, inl, inr, refl, sym, ap, ◌∙◌, subst}
use Rattle.std.proofs.lemmas.List.Elements.{Contains-append_left as left, Contains-append_right as right}
use Rattle.hm_types.specs.Interfaces.{Exports as Interface}
use Rattle.hm_syntax.specs.Lists.{declarations}
use Rattle.hm_syntax.specs.Names.{Identifier}
use Rattle.hm_syntax.specs.Trees.{TypeTree, unit_type, Pattern, Patterns, more_patterns, no_patterns, Declaration, data_declaration, newtype_declaration, synonym_declaration, signature, clause, pattern_binding, Declarations, no_declarations, more_declarations}
use Rattle.hm_syntax.specs.declared.ast.Module.{Module}
use Rattle.hm_names.specs.Cores.{is_exported, kept}
use Rattle.hm_names.specs.declared.cores.Exported.{Exported}
use Rattle.hm_names.specs.declared.faults.Kind.TheVariants.{NoBinding}
use Rattle.hm_names.specs.Faults.Lists.{ListFault}
use Rattle.hm_names.specs.Faults.Phases.{IsWellFormed}
use Rattle.hm_names.specs.ModuleCores.{ModuleCore}
use Rattle.hm_names.specs.Resolved.{Resolver, IsResolver, alternatives_with, bare, bodies_with, declaration_with, declarations_with, expression_with, expressions_with, pattern_with, patterns_with, resolved, right_side_with, top}
use Rattle.hm_names.specs.Types.{entity_of}
use Rattle.hm_names.specs.Variables.{texts, pattern_variables, patterns_variables, bound_names}
use Rattle.hm_names.specs.Walk.{Locals, Somewhere, at_list, with_list, with_patterns}
use Rattle.hm_names.proofs.Members.{rest}
use Rattle.hm_uses.specs.Scopes.{Around, Home, Part, at_top, local_to, In, a_type, some_types, a_constructor, some_constructors, a_pattern, some_patterns, an_expression, some_expressions, some_alternatives, a_right_side, some_bodies, a_declaration, some_declarations}
use Rattle.hm_uses.specs.Scopes as scopes
use Rattle.hm_uses_faults.proofs.Down.{of_one, wider}
use Rattle.hm_uses_faults.proofs.Up.{up}
use Rattle.hm_uses_cores.specs.CoreNames.{core_module}
use Rattle.hm_uses_cores.proofs.Binders.{bares, bound_bare, joined, pattern_bare, patterns_bare}
use Rattle.hm_uses_cores.proofs.Senses.{binders_at, home_in}
use Rattle.hm_uses_cores.proofs.Trees.{Belong, PatternsBelong, first_belongs, others_belong, own_variables, signed_bound}
use Rattle.hm_uses_cores.proofs.Cores.{at_its_top}

-- a declaration of a core: at the top a synonym may have lost its right side
module _ (es : List Exported) where
  abbrev side_kept : Home → Identifier → TypeTree → TypeTree
  side_kept at_top n t = cond (is_exported es (entity_of n)) t unit_type
  side_kept (local_to bs) n t = t

  abbrev pub kept_at : Home → Declaration → Declaration
  kept_at w (data_declaration n ps cs) = data_declaration n ps cs
  kept_at w (newtype_declaration n ps c) = newtype_declaration n ps c
  kept_at w (synonym_declaration n ps t) = synonym_declaration n ps (side_kept w n t)
  kept_at w (signature ns t) = signature ns t
  kept_at w (clause n ps g) = clause n ps g
  kept_at w (pattern_binding l k q g) = pattern_binding l k q g

  kept_is : (d : Declaration) → kept_at at_top d ≡ kept es d
  kept_is (data_declaration n ps cs) = refl
  kept_is (newtype_declaration n ps c) = refl
  kept_is (synonym_declaration n ps t) = refl
  kept_is (signature ns t) = refl
  kept_is (clause n ps g) = refl
  kept_is (pattern_binding l k q g) = refl

  local_is : (bs : List Identifier) (d : Declaration) → kept_at (local_to bs) d ≡ d
  local_is bs (data_declaration n ps cs) = refl
  local_is bs (newtype_declaration n ps c) = refl
  local_is bs (synonym_declaration n ps t) = refl
  local_is bs (signature ns t) = refl
  local_is bs (clause n ps g) = refl
  local_is bs (pattern_binding l k q g) = refl

module _ (m : Module) (fs : List Interface) (c : ModuleCore) (wf : IsWellFormed m fs) (r : Resolver) (a : IsResolver m fs r) (es : List Exported) where
  -- The names of a list or of patterns are its own

  its_own : (ds : Declarations) → ((n : Identifier) → ListFault (at_list ds) NoBinding n → Somewhere m (λ ys t. ListFault t NoBinding n)) → Belong m (local_to (bound_names ds)) ds
  its_own ds f = record { bound = own_variables m (bound_names ds); signed = signed_bound m fs c wf r a ds f }

  list_belongs : {xs : Around} {w : Home} {ds : Declarations} → In m xs (some_declarations w ds) → Belong m w ds
  list_belongs scopes.top = at_its_top m fs c wf r a es
  list_belongs (scopes.later_declarations {h = w} {d = d} {ds = ds} i) = others_belong m w d ds (list_belongs i)
  list_belongs (scopes.let_list {ds = ds} i) = its_own ds (λ n q. up m (λ ys t. ListFault t NoBinding n) i (inl (inl q)))
  list_belongs (scopes.where_list {ds = ds} i) = its_own ds (λ n q. up m (λ ys t. ListFault t NoBinding n) i (inr (inl q)))

  pub declaration_belongs : {xs : Around} {w : Home} {d : Declaration} → In m xs (a_declaration w d) → Belong m w (more_declarations d no_declarations)
  declaration_belongs (scopes.first_declaration {h = w} {d = d} {ds = ds} i) = first_belongs m w d ds (list_belongs i)

  mutual
    pub pattern_belongs : {xs : Around} {w : Home} {q : Pattern} → In m xs (a_pattern w q) → PatternsBelong m w (pattern_variables q)
    pattern_belongs (scopes.matched_pattern {p = q} i) n o = (declaration_belongs i).bound n (left (pattern_variables q) [] n o)
    pattern_belongs (scopes.alternative_pattern {p = q} i) n o = own_variables m (pattern_variables q) n o
    pattern_belongs (scopes.bound {n = y} {p = q} i) n o = pattern_belongs i n (rest y (pattern_variables q) n o)
    pattern_belongs (scopes.lazily i) n o = pattern_belongs i n o
    pattern_belongs (scopes.first_pattern {p = q} {ps = ps} i) n o = patterns_belong i n (left (pattern_variables q) (patterns_variables ps) n o)

    patterns_belong : {xs : Around} {w : Home} {ps : Patterns} → In m xs (some_patterns w ps) → PatternsBelong m w (patterns_variables ps)
    patterns_belong (scopes.clause_patterns {ps = ps} i) n o = own_variables m (patterns_variables ps) n o
    patterns_belong (scopes.lambda_patterns {ps = ps} i) n o = own_variables m (patterns_variables ps) n o
    patterns_belong (scopes.constructor_arguments i) n o = pattern_belongs i n o
    patterns_belong (scopes.tuple_components i) n o = pattern_belongs i n o
    patterns_belong (scopes.list_elements i) n o = pattern_belongs i n o
    patterns_belong (scopes.later_patterns {p = q} {ps = ps} i) n o = patterns_belong i n (right (pattern_variables q) (patterns_variables ps) n o)

-- The parts in the core

module _ (m : Module) (c : ModuleCore) (r : Resolver) (es : List Exported) where
  abbrev p : Module
  p = core_module m c

  abbrev declarations_at : Home → Locals → Declarations → Declarations
  declarations_at w ys no_declarations = no_declarations
  declarations_at w ys (more_declarations d ds) = more_declarations (kept_at es w (declaration_with r (binders_at m w) ys d)) (declarations_at w ys ds)

  local_list : (bs : List Identifier) (ys : Locals) (ds : Declarations) → declarations_with r bare ys ds ≡ declarations_at (local_to bs) ys ds
  local_list bs ys no_declarations = refl
  local_list bs ys (more_declarations d ds) = ap₂ (λ (x : Declaration) (y : Declarations). more_declarations x y) (sym (local_is es bs (declaration_with r bare ys d))) (local_list bs ys ds)

  pub top_list : (ds : List Declaration) → declarations (map (kept es) (map (declaration_with r (top m) []) ds)) ≡ declarations_at at_top [] (declarations ds)
  top_list [] = refl
  top_list (d ∷ ds) = ap₂ (λ (x : Declaration) (y : Declarations). more_declarations x y) (sym (kept_is es (declaration_with r (top m) [] d))) (top_list ds)

  -- its names are found in the core; those of types are left out, because a synonym there is its right side
  abbrev pub InPlace : Around → Part → Type 0
  InPlace xs (a_type vs t) = Unit {0}
  InPlace xs (some_types vs ts) = Unit {0}
  InPlace xs (a_constructor vs k) = Unit {0}
  InPlace xs (some_constructors vs ks) = Unit {0}
  InPlace xs (a_pattern w q) = In p (bares xs) (a_pattern (home_in w) (pattern_with r (binders_at m w) q))
  InPlace xs (some_patterns w ps) = In p (bares xs) (some_patterns (home_in w) (patterns_with r (binders_at m w) ps))
  InPlace xs (an_expression e) = In p (bares xs) (an_expression (expression_with r (texts xs) e))
  InPlace xs (some_expressions us) = In p (bares xs) (some_expressions (expressions_with r (texts xs) us))
  InPlace xs (some_alternatives bs) = In p (bares xs) (some_alternatives (alternatives_with r (texts xs) bs))
  InPlace xs (a_right_side g) = In p (bares xs) (a_right_side (right_side_with r (texts xs) g))
  InPlace xs (some_bodies gs) = In p (bares xs) (some_bodies (bodies_with r (texts xs) gs))
  InPlace xs (a_declaration w d) = In p (bares xs) (a_declaration (home_in w) (kept_at es w (declaration_with r (binders_at m w) (texts xs) d)))
  InPlace xs (some_declarations w ds) = In p (bares xs) (some_declarations (home_in w) (declarations_at w (texts xs) ds))

  -- inside more binders
  moved : (part : Locals → Part) (ns ms xs : List Identifier) (ys : Locals) → ms ≡ bares ns → ys ≡ texts ns ++ texts xs → In p (ms ++ bares xs) (part ys) → In p (bares (ns ++ xs)) (part (texts (ns ++ xs)))
  moved part ns ms xs ys e f j = subst (λ l. In p (bares (ns ++ xs)) (part l)) (f ∙ sym (wider ns xs)) (subst (λ l. In p l (part ys)) (joined ms (bares xs) ns xs e refl) j)

  list_moved : (ds : Declarations) (xs : Around) (ys : Locals) → ys ≡ texts (bound_names ds) ++ texts xs →
      In p (bound_names (declarations_with r bare ys ds) ++ bares xs) (some_declarations (local_to (bound_names (declarations_with r bare ys ds))) (declarations_with r bare ys ds)) →
      In p (bares (bound_names ds ++ xs)) (some_declarations (local_to (bares (bound_names ds))) (declarations_at (local_to (bound_names ds)) (texts (bound_names ds ++ xs)) ds))
  list_moved ds xs ys e j =
      let ns = bound_names ds in
      let k = subst (λ l. In p (bound_names (declarations_with r bare ys ds) ++ bares xs) (some_declarations (local_to l) (declarations_with r bare ys ds))) (bound_bare r ys ds) j in
      let l = subst (λ z. In p (bound_names (declarations_with r bare ys ds) ++ bares xs) (some_declarations (local_to (bares ns)) z)) (local_list ns ys ds) k in
      moved (λ z. some_declarations (local_to (bares ns)) (declarations_at (local_to ns) z ds)) ns (bound_names (declarations_with r bare ys ds)) xs ys (bound_bare r ys ds) e l

  head_moved : (ps : Patterns) (xs : Around) → In p (bares xs) (some_patterns (local_to (patterns_variables (patterns_with r bare ps))) (patterns_with r bare ps)) → In p (bares xs) (some_patterns (local_to (bares (patterns_variables ps))) (patterns_with r bare ps))
  head_moved ps xs j = subst (λ l. In p (bares xs) (some_patterns (local_to l) (patterns_with r bare ps))) (patterns_bare r ps) j

  pub in_place : c.decls ≡ map (kept es) (resolved m r) → {xs : Around} {q : Part} → In m xs q → InPlace xs q
  in_place t scopes.top = subst (λ l. In p [] (some_declarations at_top l)) (ap declarations t ∙ top_list m.decls) scopes.top
  in_place t (scopes.first_declaration i) = scopes.first_declaration (in_place t i)
  in_place t (scopes.later_declarations i) = scopes.later_declarations (in_place t i)
  in_place t (scopes.data_constructors i) = tt
  in_place t (scopes.newtype_constructor i) = tt
  in_place t (scopes.synonym_type i) = tt
  in_place t (scopes.first_constructor i) = tt
  in_place t (scopes.later_constructors i) = tt
  in_place t (scopes.arguments i) = tt
  in_place t (scopes.signature_type i) = tt
  in_place t (scopes.annotation i) = tt
  in_place t (scopes.clause_patterns {xs = xs} {ps = ps} i) = head_moved ps xs (scopes.clause_patterns (in_place t i))
  in_place t (scopes.clause_side {xs = xs} {ps = ps} {r = g} i) = moved (λ l. a_right_side (right_side_with r l g)) (patterns_variables ps) (patterns_variables (patterns_with r bare ps)) xs (with_patterns ps (texts xs)) (patterns_bare r ps) refl (scopes.clause_side (in_place t i))
  in_place t (scopes.matched_pattern i) = scopes.matched_pattern (in_place t i)
  in_place t (scopes.matched_side i) = scopes.matched_side (in_place t i)
  in_place t (scopes.guarded {xs} {gs} {ds} i) = moved (λ l. some_bodies (bodies_with r l gs)) (bound_names ds) (bound_names (declarations_with r bare (with_list ds (texts xs)) ds)) xs (with_list ds (texts xs)) (bound_bare r (with_list ds (texts xs)) ds) refl (scopes.guarded (in_place t i))
  in_place t (scopes.where_list {xs} {gs} {ds} i) = list_moved ds xs (with_list ds (texts xs)) refl (scopes.where_list (in_place t i))
  in_place t (scopes.plain i) = scopes.plain (in_place t i)
  in_place t (scopes.after_plain i) = scopes.after_plain (in_place t i)
  in_place t (scopes.guard i) = scopes.guard (in_place t i)
  in_place t (scopes.after_guard i) = scopes.after_guard (in_place t i)
  in_place t (scopes.other_bodies i) = scopes.other_bodies (in_place t i)
  in_place t (scopes.lambda_patterns {xs} {ps} {e} i) = head_moved ps xs (scopes.lambda_patterns (in_place t i))
  in_place t (scopes.lambda_body {xs} {ps} {e} i) = moved (λ l. an_expression (expression_with r l e)) (patterns_variables ps) (patterns_variables (patterns_with r bare ps)) xs (with_patterns ps (texts xs)) (patterns_bare r ps) refl (scopes.lambda_body (in_place t i))
  in_place t (scopes.let_list {xs} {ds} {e} i) = list_moved ds xs (with_list ds (texts xs)) refl (scopes.let_list (in_place t i))
  in_place t (scopes.let_body {xs} {ds} {e} i) = moved (λ l. an_expression (expression_with r l e)) (bound_names ds) (bound_names (declarations_with r bare (with_list ds (texts xs)) ds)) xs (with_list ds (texts xs)) (bound_bare r (with_list ds (texts xs)) ds) refl (scopes.let_body (in_place t i))
  in_place t (scopes.scrutinee i) = scopes.scrutinee (in_place t i)
  in_place t (scopes.alternatives i) = scopes.alternatives (in_place t i)
  in_place t (scopes.alternative_pattern {xs} {p = q} {r = g} {bs} i) = subst (λ l. In p (bares xs) (a_pattern (local_to l) (pattern_with r bare q))) (pattern_bare r q) (scopes.alternative_pattern (in_place t i))
  in_place t (scopes.alternative_side {xs} {p = q} {r = g} {bs} i) = moved (λ l. a_right_side (right_side_with r l g)) (pattern_variables q) (pattern_variables (pattern_with r bare q)) xs (with_patterns (more_patterns q no_patterns) (texts xs)) (pattern_bare r q) (ap (λ (vs : List Identifier). texts vs ++ texts xs) (of_one q)) (scopes.alternative_side (in_place t i))
  in_place t (scopes.later_alternatives i) = scopes.later_alternatives (in_place t i)
  in_place t (scopes.function i) = scopes.function (in_place t i)
  in_place t (scopes.argument i) = scopes.argument (in_place t i)
  in_place t (scopes.condition i) = scopes.condition (in_place t i)
  in_place t (scopes.consequent i) = scopes.consequent (in_place t i)
  in_place t (scopes.otherwise i) = scopes.otherwise (in_place t i)
  in_place t (scopes.components i) = scopes.components (in_place t i)
  in_place t (scopes.elements i) = scopes.elements (in_place t i)
  in_place t (scopes.typed i) = scopes.typed (in_place t i)
  in_place t (scopes.first_expression i) = scopes.first_expression (in_place t i)
  in_place t (scopes.later_expressions i) = scopes.later_expressions (in_place t i)
  in_place t (scopes.bound i) = scopes.bound (in_place t i)
  in_place t (scopes.constructor_arguments i) = scopes.constructor_arguments (in_place t i)
  in_place t (scopes.tuple_components i) = scopes.tuple_components (in_place t i)
  in_place t (scopes.list_elements i) = scopes.list_elements (in_place t i)
  in_place t (scopes.lazily i) = scopes.lazily (in_place t i)
  in_place t (scopes.first_pattern i) = scopes.first_pattern (in_place t i)
  in_place t (scopes.later_patterns i) = scopes.later_patterns (in_place t i)
  in_place t (scopes.type_arguments i) = tt
  in_place t (scopes.domain i) = tt
  in_place t (scopes.range i) = tt
  in_place t (scopes.tuple_types i) = tt
  in_place t (scopes.element_type i) = tt
  in_place t (scopes.first_type i) = tt
  in_place t (scopes.later_types i) = tt
