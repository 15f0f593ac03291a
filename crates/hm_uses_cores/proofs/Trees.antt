-- The variables and constructors of the trees of a core are those of its module, and mean the same.
use Rattle.std.proofs.Common.{◌≡◌, ℕ, Bool, true, false, List, [], ◌∷◌, ◌++◌, map, inl, inr, ⊎_elim, refl, sym, ap, ◌∙◌, subst}
use Rattle.std.specs.List.{Contains}
use Rattle.std.proofs.lemmas.List.{append-nil}
use Rattle.std.proofs.lemmas.List.Elements.{Contains-append_left as left, Contains-append_right as right}
use Rattle.hm_types.specs.Interfaces.{Exports as Interface}
use Rattle.hm_syntax.specs.Names.{Identifier}
use Rattle.hm_syntax.specs.Trees.{TypeTree, DataConstructor, DataConstructors, Pattern, variable_pattern, bound_pattern, constructor_pattern, literal_pattern, wildcard_pattern, tuple_pattern, list_pattern, lazy_pattern, Patterns, no_patterns, more_patterns, Expression, variable_expression, constructor_expression, literal_expression, application, lambda, let_expression, if_expression, case_expression, tuple_expression, list_expression, typed_expression, Expressions, no_expressions, more_expressions, Declaration, data_declaration, newtype_declaration, synonym_declaration, signature, clause, pattern_binding, Declarations, no_declarations, more_declarations, RightSide, right_side, Bodies, no_bodies, plain_body, guarded_body, alternative, Alternatives, no_alternatives, more_alternatives}
use Rattle.hm_syntax.specs.declared.ast.Module.{Module}
use Rattle.hm_names.specs.declared.faults.Kind.TheVariants.{NoBinding}
use Rattle.hm_names.specs.Faults.Lists.{ListFault, no_binding, signed_names}
use Rattle.hm_names.specs.Faults.Phases.{Declaring, IsWellFormed}
use Rattle.hm_names.specs.ModuleCores.{ModuleCore}
use Rattle.hm_names.specs.Resolved.{Resolver, IsResolver, bare, type_with, constructor_with, constructors_with, pattern_with, patterns_with, expression_with, expressions_with, alternatives_with, right_side_with, bodies_with, declarations_with, declaration_with}
use Rattle.hm_names.specs.Variables.{texts, pattern_variables, patterns_variables, bound_names, clause_names}
use Rattle.hm_names.specs.Walk.{Locals, Somewhere, at_list, with_patterns, with_list}
use Rattle.hm_names.proofs.DeclaredPairs.{map_contains}
use Rattle.hm_names.proofs.Members.{contains_dec, first, first_by, rest, cases, none_in}
use Rattle.hm_uses.specs.declared.name_kind.NameKind.TheVariants.{Variable, TypeVariable}
use Rattle.hm_uses.specs.Mentions.{Mention, mention, mentions, constructor_mention, type_mentions, declared_constructor_mentions, declared_constructors_mentions, pattern_mentions, patterns_mentions, expression_mentions, expressions_mentions, alternatives_mentions, right_side_mentions, bodies_mentions, declarations_mentions, declaration_mentions}
use Rattle.hm_uses.specs.Scopes.{Around, Home, at_top, local_to, In, a_pattern, some_patterns, an_expression, some_expressions, some_alternatives, a_right_side, some_bodies, a_declaration, some_declarations}
use Rattle.hm_uses.specs.Scopes as scopes
use Rattle.hm_uses.specs.Uses as uses
use Rattle.hm_uses.specs.Uses.{IsBoundIn}
use Rattle.hm_uses_faults.proofs.Down.{of_one, wider}
use Rattle.hm_uses_faults.proofs.Up.{up}
use Rattle.hm_uses_cores.specs.CoreNames.{InCore, core_module, locals_of, MeansThere}
use Rattle.hm_uses_cores.specs.CoreNames as cores
use Rattle.hm_uses_cores.proofs.Binders.{bares, joined, pattern_bare, patterns_bare, bound_bare}
use Rattle.hm_uses_cores.proofs.Senses.{BelongsTo, IsSilent, Same, binder, binder_column, binder_line, binders_at, constructor_means, home_in, matched_means, no_fault, same_both, same_named, same_silent, same_used, same_variable, silent_both, silent_constructor, silent_constructors, silent_parameters, silent_type}

-- the binders around a part, those in the core, and the texts that the resolver has
pub record Frame : Type 0 where
  pub around : Around
  pub core : Around
  pub locals : Locals
  pub texts_are : locals ≡ texts around
  pub bares_are : core ≡ bares around

abbrev entered : (f : Frame) (ns ms : List Identifier) (ys : Locals) → ys ≡ texts ns ++ f.locals → ms ≡ bares ns → Frame
entered f ns ms ys e b = record {
  around = ns ++ f.around;
  core = ms ++ f.core;
  locals = ys;
  texts_are = e ∙ (ap (λ (l : Locals). texts ns ++ l) f.texts_are ∙ sym (wider ns f.around));
  bares_are = joined ms f.core ns f.around b f.bares_are;
}

clause_is_bound : (ds : Declarations) (x : List ℕ) → Contains (texts (clause_names ds)) x → Contains (texts (bound_names ds)) x
clause_is_bound no_declarations x c = absurd (none_in x c)
clause_is_bound (more_declarations (data_declaration n ps cs) ds) x c = clause_is_bound ds x c
clause_is_bound (more_declarations (newtype_declaration n ps k) ds) x c = clause_is_bound ds x c
clause_is_bound (more_declarations (synonym_declaration n ps t) ds) x c = clause_is_bound ds x c
clause_is_bound (more_declarations (signature ns t) ds) x c = clause_is_bound ds x c
clause_is_bound (more_declarations (clause n ps r) ds) x c = ⊎_elim (λ e. first_by n.text (texts (bound_names ds)) x e) (λ o. rest n.text (texts (bound_names ds)) x (clause_is_bound ds x o)) (cases n.text (texts (clause_names ds)) x c)
clause_is_bound (more_declarations (pattern_binding l k p r) ds) x c = subst (λ z. Contains z x) (sym (wider (pattern_variables p) (bound_names ds))) (right (texts (pattern_variables p)) (texts (bound_names ds)) x (clause_is_bound ds x c))

of_alone : (ns : List Identifier) (n : Identifier) → Contains (ns ++ []) n → Contains ns n
of_alone ns n o = subst (λ l. Contains l n) (append-nil ns) o

-- the names of a list belong to its home
pub record Belong (m : Module) (h : Home) (ds : Declarations) : Type 0 where
  pub bound : (n : Identifier) → Contains (bound_names ds) n → BelongsTo m h n.text
  pub signed : (n : Identifier) → Contains (signed_names ds) n → BelongsTo m h n.text

abbrev pub PatternsBelong : Module → Home → List Identifier → Type 0
PatternsBelong m h ns = (n : Identifier) → Contains ns n → BelongsTo m h n.text

pub own_variables : (m : Module) (ns : List Identifier) → PatternsBelong m (local_to ns) ns
own_variables m ns n c = map_contains (λ (y : Identifier). y.text) ns n c

pub first_belongs : (m : Module) (w : Home) (d : Declaration) (ds : Declarations) → Belong m w (more_declarations d ds) → Belong m w (more_declarations d no_declarations)
first_belongs m w (data_declaration n ps cs) ds b = record { bound = λ y o. absurd (none_in y o); signed = λ y o. absurd (none_in y o) }
first_belongs m w (newtype_declaration n ps k) ds b = record { bound = λ y o. absurd (none_in y o); signed = λ y o. absurd (none_in y o) }
first_belongs m w (synonym_declaration n ps t) ds b = record { bound = λ y o. absurd (none_in y o); signed = λ y o. absurd (none_in y o) }
first_belongs m w (signature ns t) ds b = record { bound = λ y o. absurd (none_in y o); signed = λ y o. b.signed y (left ns (signed_names ds) y (of_alone ns y o)) }
first_belongs m w (clause n ps g) ds b = record { bound = λ y o. b.bound y (⊎_elim (λ s. first_by n (bound_names ds) y s) (λ z. absurd (none_in y z)) (cases n [] y o)); signed = λ y o. absurd (none_in y o) }
first_belongs m w (pattern_binding l k q g) ds b = record { bound = λ y o. b.bound y (left (pattern_variables q) (bound_names ds) y (of_alone (pattern_variables q) y o)); signed = λ y o. absurd (none_in y o) }

pub others_belong : (m : Module) (w : Home) (d : Declaration) (ds : Declarations) → Belong m w (more_declarations d ds) → Belong m w ds
others_belong m w (data_declaration n ps cs) ds b = record { bound = b.bound; signed = b.signed }
others_belong m w (newtype_declaration n ps k) ds b = record { bound = b.bound; signed = b.signed }
others_belong m w (synonym_declaration n ps t) ds b = record { bound = b.bound; signed = b.signed }
others_belong m w (signature ns t) ds b = record { bound = b.bound; signed = λ y o. b.signed y (right ns (signed_names ds) y o) }
others_belong m w (clause n ps g) ds b = record { bound = λ y o. b.bound y (rest n (bound_names ds) y o); signed = b.signed }
others_belong m w (pattern_binding l k q g) ds b = record { bound = λ y o. b.bound y (right (pattern_variables q) (bound_names ds) y o); signed = b.signed }

silent_data : (ps : List Identifier) (cs : DataConstructors) → IsSilent (mentions TypeVariable true ps ++ declared_constructors_mentions cs)
silent_data ps cs = silent_both (mentions TypeVariable true ps) (declared_constructors_mentions cs) (silent_parameters ps) (silent_constructors cs)

silent_newtype : (ps : List Identifier) (k : DataConstructor) → IsSilent (mentions TypeVariable true ps ++ declared_constructor_mentions k)
silent_newtype ps k = silent_both (mentions TypeVariable true ps) (declared_constructor_mentions k) (silent_parameters ps) (silent_constructor k)

pub silent_synonym : (ps : List Identifier) (t : TypeTree) → IsSilent (mentions TypeVariable true ps ++ type_mentions t)
silent_synonym ps t = silent_both (mentions TypeVariable true ps) (type_mentions t) (silent_parameters ps) (silent_type t)

module _ (m : Module) (fs : List Interface) (c : ModuleCore) (wf : IsWellFormed m fs) (r : Resolver) (a : IsResolver m fs r) where
  abbrev p : Module
  p = core_module m c

  abbrev Alike : List Mention → List Mention → Type 0
  Alike us vs = Same m fs c us vs

  both : (us vs xs ys : List Mention) → Alike us xs → Alike vs ys → Alike (us ++ vs) (xs ++ ys)
  both us vs xs ys h k = same_both m fs c us vs xs ys h k

  -- the signatures of a list have bindings there
  pub signed_bound : (ds : Declarations) → ((n : Identifier) → ListFault (at_list ds) NoBinding n → Somewhere m (λ ys t. ListFault t NoBinding n)) → (n : Identifier) → Contains (signed_names ds) n → Contains (texts (bound_names ds)) n.text
  signed_bound ds f n s = go (contains_dec (texts (clause_names ds)) n.text)
    where
      go : Dec (Contains (texts (clause_names ds)) n.text) → Contains (texts (bound_names ds)) n.text
      go (yes h) = clause_is_bound ds n.text h
      go (no h) = absurd (no_fault m fs wf Declaring NoBinding n (f n (no_binding s h)))

  bound_here : (b : Bool) (w w2 : Home) (n : Identifier) → w2 ≡ home_in w → BelongsTo m w n.text →
      ((t : _) → uses.OfBinder m n.text w t → uses.InDeclarations m fs n Variable b t) → ((t : _) → MeansThere (locals_of w2) (binders_at m w n) t → InCore p (binders_at m w n) Variable b t) → Alike (mention Variable b n) (mention Variable b (binders_at m w n))
  bound_here b w w2 n e h d k =
      let o = binder m fs c w n h in
      same_variable m fs c b n (binders_at m w n) o.0 (binder_line m fs c w n) (binder_column m fs c w n) (d o.0 o.1.0) (k o.0 (subst (λ z. MeansThere (locals_of z) (binders_at m w n) o.0) (sym e) o.1.1))

  -- the names of a signature
  signed : (w w2 : Home) → w2 ≡ home_in w → (all ns : List Identifier) → ((n : Identifier) → Contains ns n → Contains all n) → ((n : Identifier) → Contains all n → BelongsTo m w n.text) →
      ((n : Identifier) (t : _) → Contains all n → uses.OfBinder m n.text w t → uses.InDeclarations m fs n Variable false t) →
      ((n : Identifier) (t : _) → Contains (map (binders_at m w) all) n → MeansThere (locals_of w2) n t → InCore p n Variable false t) → Alike (mentions Variable false ns) (mentions Variable false (map (binders_at m w) ns))
  signed w w2 e all [] g b d k = tt
  signed w w2 e all (n ∷ ns) g b d k = both (mention Variable false n) (mentions Variable false ns) (mention Variable false (binders_at m w n)) (mentions Variable false (map (binders_at m w) ns))
      (bound_here false w w2 n e (b n (g n (first n ns))) (λ t o. d n t (g n (first n ns)) o) (λ t o. k (binders_at m w n) t (map_contains (binders_at m w) all n (g n (first n ns))) o))
      (signed w w2 e all ns (λ y o. g y (rest n ns y o)) b d k)

  mutual
    pattern : (xs ds : Around) (w w2 : Home) → w2 ≡ home_in w → (q : Pattern) → PatternsBelong m w (pattern_variables q) → In m xs (a_pattern w q) → In p ds (a_pattern w2 (pattern_with r (binders_at m w) q)) → Alike (pattern_mentions q) (pattern_mentions (pattern_with r (binders_at m w) q))
    pattern xs ds w w2 e (variable_pattern n) b i j = bound_here true w w2 n e (b n (first n [])) (λ t o. uses.bound_variable i o) (λ t o. cores.bound_variable j o)
    pattern xs ds w w2 e (bound_pattern n q) b i j = both (mention Variable true n) (pattern_mentions q) (mention Variable true (binders_at m w n)) (pattern_mentions (pattern_with r (binders_at m w) q))
        (bound_here true w w2 n e (b n (first n (pattern_variables q))) (λ t o. uses.as_variable i o) (λ t o. cores.as_variable j o))
        (pattern xs ds w w2 e q (λ y o. b y (rest n (pattern_variables q) y o)) (scopes.bound i) (scopes.bound j))
    pattern xs ds w w2 e (constructor_pattern n ps) b i j = both (constructor_mention n) (patterns_mentions ps) (constructor_mention (r.name Rattle.hm_names.specs.declared.namespace.Namespace.TheVariants.Constructors [] n)) (patterns_mentions (patterns_with r (binders_at m w) ps))
        (same_named m fs c wf r a n (λ s. matched_means m fs wf xs w n ps i s) (λ t s o. uses.matched_constructor i s o) (λ t o. cores.matched_constructor j o))
        (patterns xs ds w w2 e ps b (scopes.constructor_arguments i) (scopes.constructor_arguments j))
    pattern xs ds w w2 e (literal_pattern l) b i j = tt
    pattern xs ds w w2 e wildcard_pattern b i j = tt
    pattern xs ds w w2 e (tuple_pattern ps) b i j = patterns xs ds w w2 e ps b (scopes.tuple_components i) (scopes.tuple_components j)
    pattern xs ds w w2 e (list_pattern ps) b i j = patterns xs ds w w2 e ps b (scopes.list_elements i) (scopes.list_elements j)
    pattern xs ds w w2 e (lazy_pattern q) b i j = pattern xs ds w w2 e q b (scopes.lazily i) (scopes.lazily j)

    patterns : (xs ds : Around) (w w2 : Home) → w2 ≡ home_in w → (ps : Patterns) → PatternsBelong m w (patterns_variables ps) → In m xs (some_patterns w ps) → In p ds (some_patterns w2 (patterns_with r (binders_at m w) ps)) → Alike (patterns_mentions ps) (patterns_mentions (patterns_with r (binders_at m w) ps))
    patterns xs ds w w2 e no_patterns b i j = tt
    patterns xs ds w w2 e (more_patterns q ps) b i j = both (pattern_mentions q) (patterns_mentions ps) (pattern_mentions (pattern_with r (binders_at m w) q)) (patterns_mentions (patterns_with r (binders_at m w) ps))
        (pattern xs ds w w2 e q (λ y o. b y (left (pattern_variables q) (patterns_variables ps) y o)) (scopes.first_pattern i) (scopes.first_pattern j))
        (patterns xs ds w w2 e ps (λ y o. b y (right (pattern_variables q) (patterns_variables ps) y o)) (scopes.later_patterns i) (scopes.later_patterns j))

  -- the patterns of a clause or a lambda
  head : (f : Frame) (ps : Patterns) → In m f.around (some_patterns (local_to (patterns_variables ps)) ps) → In p f.core (some_patterns (local_to (patterns_variables (patterns_with r bare ps))) (patterns_with r bare ps)) → Alike (patterns_mentions ps) (patterns_mentions (patterns_with r bare ps))
  head f ps i j = patterns f.around f.core (local_to (patterns_variables ps)) (local_to (patterns_variables (patterns_with r bare ps))) (ap local_to (patterns_bare r ps)) ps (own_variables m (patterns_variables ps)) i j

  abbrev under_patterns : (f : Frame) (ps : Patterns) → Frame
  under_patterns f ps = entered f (patterns_variables ps) (patterns_variables (patterns_with r bare ps)) (with_patterns ps f.locals) refl (patterns_bare r ps)

  -- the frame inside a list
  abbrev under_list : (f : Frame) (ds : Declarations) → Frame
  under_list f ds = entered f (bound_names ds) (bound_names (declarations_with r bare (with_list ds f.locals) ds)) (with_list ds f.locals) refl (bound_bare r (with_list ds f.locals) ds)

  -- the list of a let or a where is the home of its names
  its_own : (ds : Declarations) → ((n : Identifier) → ListFault (at_list ds) NoBinding n → Somewhere m (λ ys t. ListFault t NoBinding n)) → Belong m (local_to (bound_names ds)) ds
  its_own ds f = record { bound = own_variables m (bound_names ds); signed = signed_bound ds f }

  mutual
    expression : (f : Frame) (e : Expression) → In m f.around (an_expression e) → In p f.core (an_expression (expression_with r f.locals e)) → Alike (expression_mentions e) (expression_mentions (expression_with r f.locals e))
    expression f (variable_expression n) i j = same_used m fs c wf r a f.around f.core f.locals n f.texts_are f.bares_are i j
    expression f (constructor_expression n) i j = same_named m fs c wf r a n (λ s. constructor_means m fs wf f.around n i s) (λ t s o. uses.constructor i s o) (λ t o. cores.constructor j o)
    expression f (literal_expression l) i j = tt
    expression f (application g e) i j = both (expression_mentions g) (expression_mentions e) (expression_mentions (expression_with r f.locals g)) (expression_mentions (expression_with r f.locals e)) (expression f g (scopes.function i) (scopes.function j)) (expression f e (scopes.argument i) (scopes.argument j))
    expression f (lambda ps e) i j = both (patterns_mentions ps) (expression_mentions e) (patterns_mentions (patterns_with r bare ps)) (expression_mentions (expression_with r (with_patterns ps f.locals) e)) (head f ps (scopes.lambda_patterns i) (scopes.lambda_patterns j)) (expression (under_patterns f ps) e (scopes.lambda_body i) (scopes.lambda_body j))
    expression f (let_expression ds e) i j = both (declarations_mentions ds) (expression_mentions e) (declarations_mentions (declarations_with r bare (with_list ds f.locals) ds)) (expression_mentions (expression_with r (with_list ds f.locals) e))
        (all_declarations (under_list f ds) (local_to (bound_names ds)) (local_to (bound_names (declarations_with r bare (with_list ds f.locals) ds))) (ap local_to (bound_bare r (with_list ds f.locals) ds)) ds (its_own ds (λ n q. up m (λ ys t. ListFault t NoBinding n) i (inl (inl q)))) (scopes.let_list i) (scopes.let_list j))
        (expression (under_list f ds) e (scopes.let_body i) (scopes.let_body j))
    expression f (if_expression x y z) i j = both (expression_mentions x) (expression_mentions y ++ expression_mentions z) (expression_mentions (expression_with r f.locals x)) (expression_mentions (expression_with r f.locals y) ++ expression_mentions (expression_with r f.locals z))
        (expression f x (scopes.condition i) (scopes.condition j))
        (both (expression_mentions y) (expression_mentions z) (expression_mentions (expression_with r f.locals y)) (expression_mentions (expression_with r f.locals z)) (expression f y (scopes.consequent i) (scopes.consequent j)) (expression f z (scopes.otherwise i) (scopes.otherwise j)))
    expression f (case_expression e bs) i j = both (expression_mentions e) (alternatives_mentions bs) (expression_mentions (expression_with r f.locals e)) (alternatives_mentions (alternatives_with r f.locals bs)) (expression f e (scopes.scrutinee i) (scopes.scrutinee j)) (all_alternatives f bs (scopes.alternatives i) (scopes.alternatives j))
    expression f (tuple_expression es) i j = expressions f es (scopes.components i) (scopes.components j)
    expression f (list_expression es) i j = expressions f es (scopes.elements i) (scopes.elements j)
    expression f (typed_expression e t) i j = both (expression_mentions e) (type_mentions t) (expression_mentions (expression_with r f.locals e)) (type_mentions (type_with r t)) (expression f e (scopes.typed i) (scopes.typed j)) (same_silent m fs c (type_mentions t) (type_mentions (type_with r t)) (silent_type t) (silent_type (type_with r t)))

    expressions : (f : Frame) (es : Expressions) → In m f.around (some_expressions es) → In p f.core (some_expressions (expressions_with r f.locals es)) → Alike (expressions_mentions es) (expressions_mentions (expressions_with r f.locals es))
    expressions f no_expressions i j = tt
    expressions f (more_expressions e es) i j = both (expression_mentions e) (expressions_mentions es) (expression_mentions (expression_with r f.locals e)) (expressions_mentions (expressions_with r f.locals es)) (expression f e (scopes.first_expression i) (scopes.first_expression j)) (expressions f es (scopes.later_expressions i) (scopes.later_expressions j))

    all_alternatives : (f : Frame) (bs : Alternatives) → In m f.around (some_alternatives bs) → In p f.core (some_alternatives (alternatives_with r f.locals bs)) → Alike (alternatives_mentions bs) (alternatives_mentions (alternatives_with r f.locals bs))
    all_alternatives f no_alternatives i j = tt
    all_alternatives f (more_alternatives (alternative q g) bs) i j =
        both (pattern_mentions q ++ right_side_mentions g) (alternatives_mentions bs) (pattern_mentions (pattern_with r bare q) ++ right_side_mentions (right_side_with r (with_patterns (more_patterns q no_patterns) f.locals) g)) (alternatives_mentions (alternatives_with r f.locals bs))
        (both (pattern_mentions q) (right_side_mentions g) (pattern_mentions (pattern_with r bare q)) (right_side_mentions (right_side_with r (with_patterns (more_patterns q no_patterns) f.locals) g))
        (pattern f.around f.core (local_to (pattern_variables q)) (local_to (pattern_variables (pattern_with r bare q))) (ap local_to (pattern_bare r q)) q (own_variables m (pattern_variables q)) (scopes.alternative_pattern i) (scopes.alternative_pattern j))
        (side (entered f (pattern_variables q) (pattern_variables (pattern_with r bare q)) (with_patterns (more_patterns q no_patterns) f.locals) (ap (λ (vs : List Identifier). texts vs ++ f.locals) (of_one q)) (pattern_bare r q)) g (scopes.alternative_side i) (scopes.alternative_side j)))
        (all_alternatives f bs (scopes.later_alternatives i) (scopes.later_alternatives j))

    side : (f : Frame) (g : RightSide) → In m f.around (a_right_side g) → In p f.core (a_right_side (right_side_with r f.locals g)) → Alike (right_side_mentions g) (right_side_mentions (right_side_with r f.locals g))
    side f (right_side gs ds) i j = both (bodies_mentions gs) (declarations_mentions ds) (bodies_mentions (bodies_with r (with_list ds f.locals) gs)) (declarations_mentions (declarations_with r bare (with_list ds f.locals) ds))
        (bodies (under_list f ds) gs (scopes.guarded i) (scopes.guarded j))
        (all_declarations (under_list f ds) (local_to (bound_names ds)) (local_to (bound_names (declarations_with r bare (with_list ds f.locals) ds))) (ap local_to (bound_bare r (with_list ds f.locals) ds)) ds (its_own ds (λ n q. up m (λ ys t. ListFault t NoBinding n) i (inr (inl q)))) (scopes.where_list i) (scopes.where_list j))

    bodies : (f : Frame) (gs : Bodies) → In m f.around (some_bodies gs) → In p f.core (some_bodies (bodies_with r f.locals gs)) → Alike (bodies_mentions gs) (bodies_mentions (bodies_with r f.locals gs))
    bodies f no_bodies i j = tt
    bodies f (plain_body e gs) i j = both (expression_mentions e) (bodies_mentions gs) (expression_mentions (expression_with r f.locals e)) (bodies_mentions (bodies_with r f.locals gs)) (expression f e (scopes.plain i) (scopes.plain j)) (bodies f gs (scopes.after_plain i) (scopes.after_plain j))
    bodies f (guarded_body g e gs) i j = both (expression_mentions g ++ expression_mentions e) (bodies_mentions gs) (expression_mentions (expression_with r f.locals g) ++ expression_mentions (expression_with r f.locals e)) (bodies_mentions (bodies_with r f.locals gs))
        (both (expression_mentions g) (expression_mentions e) (expression_mentions (expression_with r f.locals g)) (expression_mentions (expression_with r f.locals e)) (expression f g (scopes.guard i) (scopes.guard j)) (expression f e (scopes.after_guard i) (scopes.after_guard j)))
        (bodies f gs (scopes.other_bodies i) (scopes.other_bodies j))

    all_declarations : (f : Frame) (w w2 : Home) → w2 ≡ home_in w → (ds : Declarations) → Belong m w ds → In m f.around (some_declarations w ds) → In p f.core (some_declarations w2 (declarations_with r (binders_at m w) f.locals ds)) → Alike (declarations_mentions ds) (declarations_mentions (declarations_with r (binders_at m w) f.locals ds))
    all_declarations f w w2 e no_declarations b i j = tt
    all_declarations f w w2 e (more_declarations d ds) b i j = both (declaration_mentions d) (declarations_mentions ds) (declaration_mentions (declaration_with r (binders_at m w) f.locals d)) (declarations_mentions (declarations_with r (binders_at m w) f.locals ds))
        (declaration f w w2 e d (first_belongs m w d ds b) (scopes.first_declaration i) (scopes.first_declaration j))
        (all_declarations f w w2 e ds (others_belong m w d ds b) (scopes.later_declarations i) (scopes.later_declarations j))

    pub declaration : (f : Frame) (w w2 : Home) → w2 ≡ home_in w → (d : Declaration) → Belong m w (more_declarations d no_declarations) → In m f.around (a_declaration w d) → In p f.core (a_declaration w2 (declaration_with r (binders_at m w) f.locals d)) → Alike (declaration_mentions d) (declaration_mentions (declaration_with r (binders_at m w) f.locals d))
    declaration f w w2 e (data_declaration n ps cs) b i j = same_silent m fs c (declaration_mentions (data_declaration n ps cs)) (declaration_mentions (declaration_with r (binders_at m w) f.locals (data_declaration n ps cs))) (silent_data ps cs) (silent_data ps (constructors_with r (binders_at m w) cs))
    declaration f w w2 e (newtype_declaration n ps k) b i j = same_silent m fs c (declaration_mentions (newtype_declaration n ps k)) (declaration_mentions (declaration_with r (binders_at m w) f.locals (newtype_declaration n ps k))) (silent_newtype ps k) (silent_newtype ps (constructor_with r (binders_at m w) k))
    declaration f w w2 e (synonym_declaration n ps t) b i j = same_silent m fs c (declaration_mentions (synonym_declaration n ps t)) (declaration_mentions (declaration_with r (binders_at m w) f.locals (synonym_declaration n ps t))) (silent_synonym ps t) (silent_synonym ps (type_with r t))
    declaration f w w2 e (signature ns t) b i j = both (mentions Variable false ns) (type_mentions t) (mentions Variable false (map (binders_at m w) ns)) (type_mentions (type_with r t))
        (signed w w2 e ns ns (λ n o. o) (λ n o. b.signed n (left ns [] n o)) (λ n t2 o k. uses.signed i o k) (λ n t2 o k. cores.signed j o k))
        (same_silent m fs c (type_mentions t) (type_mentions (type_with r t)) (silent_type t) (silent_type (type_with r t)))
    declaration f w w2 e (clause n ps g) b i j = both (mention Variable true n) (patterns_mentions ps ++ right_side_mentions g) (mention Variable true (binders_at m w n)) (patterns_mentions (patterns_with r bare ps) ++ right_side_mentions (right_side_with r (with_patterns ps f.locals) g))
        (bound_here true w w2 n e (b.bound n (first n [])) (λ t o. uses.defined i o) (λ t o. cores.defined j o))
        (both (patterns_mentions ps) (right_side_mentions g) (patterns_mentions (patterns_with r bare ps)) (right_side_mentions (right_side_with r (with_patterns ps f.locals) g)) (head f ps (scopes.clause_patterns i) (scopes.clause_patterns j)) (side (under_patterns f ps) g (scopes.clause_side i) (scopes.clause_side j)))
    declaration f w w2 e (pattern_binding l k q g) b i j = both (pattern_mentions q) (right_side_mentions g) (pattern_mentions (pattern_with r (binders_at m w) q)) (right_side_mentions (right_side_with r f.locals g))
        (pattern f.around f.core w w2 e q (λ n o. b.bound n (left (pattern_variables q) [] n o)) (scopes.matched_pattern i) (scopes.matched_pattern j))
        (side f g (scopes.matched_side i) (scopes.matched_side j))
