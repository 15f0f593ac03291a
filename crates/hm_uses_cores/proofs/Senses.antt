-- A name of a core means there what it means in the module.
use Rattle.std.proofs.Common.{◌≡◌, ℕ, Bool, true, false, cond, List, [], ◌∷◌, ◌++◌, Option, None, Some, is_some, inl, ⊎_elim, refl, sym, ap, ◌∙◌, subst}
use Rattle.std.specs.List.{AllZip, Contains}
use Rattle.std.specs.Prelude.{filter}
use Rattle.std.proofs.lemmas.List.Elements.{filter-append}
use Rattle.hm_types.specs.declared.Entity.{Entity}
use Rattle.hm_types.specs.Interfaces.{Exports as Interface}
use Rattle.hm_syntax.specs.Names.{Identifier}
use Rattle.hm_syntax.specs.Trees.{TypeTree, variable_type, constructor_type, function_type, tuple_type, list_type, unit_type, TypeTrees, no_types, more_types, DataConstructor, data_constructor, DataConstructors, no_constructors, more_constructors, variable_expression, constructor_expression, Patterns, constructor_pattern}
use Rattle.hm_syntax.specs.declared.ast.Module.{Module}
use Rattle.hm_names.specs.declared.namespace.Namespace.{Namespace}
use Rattle.hm_names.specs.declared.namespace.Namespace.TheVariants.{Constructors, Values}
use Rattle.hm_names.specs.declared.faults.Kind.{Kind}
use Rattle.hm_names.specs.declared.faults.Kind.TheVariants.{Unbound, Ambiguous}
use Rattle.hm_names.specs.Entities.{Declares, own}
use Rattle.hm_names.specs.Expansion.{as_entity}
use Rattle.hm_names.specs.Faults.Names.{IsLocal, NameFault, Uses, a_constructor, a_pattern, a_variable}
use Rattle.hm_names.specs.Faults.Names as faults
use Rattle.hm_names.specs.Faults.Phases.{FaultAt, IsWellFormed, Naming, Phase, fault}
use Rattle.hm_names.specs.Found.{is_special}
use Rattle.hm_names.specs.ModuleCores.{ModuleCore}
use Rattle.hm_names.specs.Resolved.{Binders, Resolver, IsResolver, bare, top}
use Rattle.hm_names.specs.Scope.{IsUnbound, IsAmbiguous, Means}
use Rattle.hm_names.specs.Special.{IsSpecial, Special, special_of}
use Rattle.hm_names.specs.Variables.{texts}
use Rattle.hm_names.specs.Walk.{Locals}
use Rattle.hm_names.proofs.Existence.{has_meaning}
use Rattle.hm_names.proofs.Members.{contains_dec}
use Rattle.hm_uses.specs.declared.name_kind.NameKind.TheVariants.{Variable, Constructor, TypeVariable}
use Rattle.hm_uses.specs.Mentions.{Mention, mention, mentions, constructor_mention, type_mentions, types_mentions, declared_constructor_mentions, declared_constructors_mentions}
use Rattle.hm_uses.specs.Scopes.{Around, Home, at_top, local_to, In, an_expression, a_pattern as pattern_part}
use Rattle.hm_uses.specs.Uses.{Sense, IsBoundIn, IsFirst, ByScope, OfVariable, OfBinder, InDeclarations, global, innermost, local, local_variable, one, own_variable}
use Rattle.hm_uses.specs.Uses as uses
use Rattle.hm_uses_faults.proofs.Up.{up}
use Rattle.hm_uses_cores.specs.CoreNames.{InCore, MeansThere, a_local, an_entity, core_module, is_value, locals_of}
use Rattle.hm_uses_cores.specs.CoreNames as cores
use Rattle.hm_uses_cores.specs.Laws.{MeansTheSame}
use Rattle.hm_uses_cores.proofs.Binders.{bares, first_bare, first_of}

-- Lists without variables and constructors

abbrev pub IsSilent : List Mention → Type 0
IsSilent us = filter is_value us ≡ []

pub silent_both : (us vs : List Mention) → IsSilent us → IsSilent vs → IsSilent (us ++ vs)
silent_both us vs e f = filter-append is_value us vs ∙ (ap (λ l. l ++ filter is_value vs) e ∙ f)

mutual
  pub silent_type : (t : TypeTree) → IsSilent (type_mentions t)
  silent_type (variable_type n) = refl
  silent_type (constructor_type n ts) = silent_types ts
  silent_type (function_type a b) = silent_both (type_mentions a) (type_mentions b) (silent_type a) (silent_type b)
  silent_type (tuple_type ts) = silent_types ts
  silent_type (list_type t) = silent_type t
  silent_type unit_type = refl

  pub silent_types : (ts : TypeTrees) → IsSilent (types_mentions ts)
  silent_types no_types = refl
  silent_types (more_types t ts) = silent_both (type_mentions t) (types_mentions ts) (silent_type t) (silent_types ts)

pub silent_constructor : (c : DataConstructor) → IsSilent (declared_constructor_mentions c)
silent_constructor (data_constructor n ts) = silent_types ts

pub silent_constructors : (cs : DataConstructors) → IsSilent (declared_constructors_mentions cs)
silent_constructors no_constructors = refl
silent_constructors (more_constructors c cs) = silent_both (declared_constructor_mentions c) (declared_constructors_mentions cs) (silent_constructor c) (silent_constructors cs)

pub silent_parameters : (ps : List Identifier) → IsSilent (mentions TypeVariable true ps)
silent_parameters [] = refl
silent_parameters (p ∷ ps) = silent_parameters ps

-- a home in a core, and its binders there
abbrev pub home_in : Home → Home
home_in at_top = at_top
home_in (local_to bs) = local_to (bares bs)

abbrev pub binders_at : Module → Home → Binders
binders_at m at_top = top m
binders_at m (local_to bs) = bare

-- the variable x belongs to the list or the patterns
abbrev pub BelongsTo : Module → Home → List ℕ → Type 0
BelongsTo m at_top x = Declares m x Values
BelongsTo m (local_to bs) x = IsBoundIn x bs

zip_append : {X : Type 0} (R : X → X → Type 0) (us vs xs ys : List X) → AllZip R us xs → AllZip R vs ys → AllZip R (us ++ vs) (xs ++ ys)
zip_append R [] vs [] ys p q = q
zip_append R [] vs (x ∷ xs) ys p q = absurd p
zip_append R (u ∷ us) vs [] ys p q = absurd p
zip_append R (u ∷ us) vs (x ∷ xs) ys p q = (p.0, zip_append R us vs xs ys p.1 q)

module _ (m : Module) (fs : List Interface) (c : ModuleCore) where
  abbrev pub Same : List Mention → List Mention → Type 0
  Same us vs = AllZip (MeansTheSame m fs c) (filter is_value us) (filter is_value vs)

  pub same_both : (us vs xs ys : List Mention) → Same us xs → Same vs ys → Same (us ++ vs) (xs ++ ys)
  same_both us vs xs ys p q = subst (λ l. AllZip (MeansTheSame m fs c) l (filter is_value (xs ++ ys))) (sym (filter-append is_value us vs))
      (subst (λ l. AllZip (MeansTheSame m fs c) (filter is_value us ++ filter is_value vs) l) (sym (filter-append is_value xs ys)) (zip_append (MeansTheSame m fs c) (filter is_value us) (filter is_value vs) (filter is_value xs) (filter is_value ys) p q))

  pub same_silent : (us vs : List Mention) → IsSilent us → IsSilent vs → Same us vs
  same_silent us vs e f = subst (λ l. AllZip (MeansTheSame m fs c) l (filter is_value vs)) (sym e) (subst (λ l. AllZip (MeansTheSame m fs c) [] l) (sym f) tt)

  pub same_variable : (b : Bool) (n v : Identifier) (t : Sense) → v.line ≡ n.line → v.column ≡ n.column → InDeclarations m fs n Variable b t → InCore (core_module m c) v Variable b t → Same (mention Variable b n) (mention Variable b v)
  same_variable b n v t l k d w = (record { line = l; column = k; kind = refl; binds = refl; sense = t; in_module = d; in_core = w }, tt)

  pub same_constructor : (n v : Identifier) (t : Sense) → v.line ≡ n.line → v.column ≡ n.column → InDeclarations m fs n Constructor false t → InCore (core_module m c) v Constructor false t → Same (mention Constructor false n) (mention Constructor false v)
  same_constructor n v t l k d w = (record { line = l; column = k; kind = refl; binds = refl; sense = t; in_module = d; in_core = w }, tt)

  -- where a name is bound, it means its own variable
  pub binder : (h : Home) (n : Identifier) → BelongsTo m h n.text → (t : Sense) × (OfBinder m n.text h t × MeansThere (locals_of (home_in h)) (binders_at m h n) t)
  binder at_top n d = (uses.an_entity (own m n.text), (own_variable d, an_entity refl))
  binder (local_to bs) n b = let f = first_of n.text bs b in (local_variable f.0.line f.0.column, (local f.1, a_local {b = bare f.0} refl (first_bare n.text f.0 f.1)))

  pub binder_line : (h : Home) (n : Identifier) → (binders_at m h n).line ≡ n.line
  binder_line at_top n = refl
  binder_line (local_to bs) n = refl

  pub binder_column : (h : Home) (n : Identifier) → (binders_at m h n).column ≡ n.column
  binder_column at_top n = refl
  binder_column (local_to bs) n = refl

module _ (m : Module) (fs : List Interface) (wf : IsWellFormed m fs) where
  pub no_fault : (p : Phase) (k : Kind) (n : Identifier) → ¬ (FaultAt m fs p k n)
  no_fault p k n h = wf p (fault k n) (record { kind = k; name = n; stands = h; is = refl })

  -- a name that is looked up in the scope means an entity
  looked_up : (s : Namespace) (n : Identifier) → ¬ (FaultAt m fs Naming Unbound n) → ¬ (FaultAt m fs Naming Ambiguous n) →
      (IsUnbound m fs s n → FaultAt m fs Naming Unbound n) → (IsAmbiguous m fs s n → FaultAt m fs Naming Ambiguous n) → (e : Entity) × Means m fs s n e
  looked_up s n u a f g = ⊎_elim (λ h. absurd (u (f h))) (λ o. ⊎_elim (λ h. absurd (a (g h))) (λ w. w) o) (has_meaning m fs s n)

  pub variable_means : (xs : Around) (n : Identifier) → In m xs (an_expression (variable_expression n)) → ¬ (IsLocal (texts xs) n) → (e : Entity) × Means m fs Values n e
  variable_means xs n i l = looked_up Values n (no_fault Naming Unbound n) (no_fault Naming Ambiguous n)
      (λ h. up m (λ ys t. NameFault m fs ys t Unbound n) i (faults.unbound (a_variable l) h)) (λ h. up m (λ ys t. NameFault m fs ys t Ambiguous n) i (faults.ambiguous (a_variable l) h))

  pub constructor_means : (xs : Around) (n : Identifier) → In m xs (an_expression (constructor_expression n)) → ¬ (IsSpecial n) → (e : Entity) × Means m fs Constructors n e
  constructor_means xs n i s = looked_up Constructors n (no_fault Naming Unbound n) (no_fault Naming Ambiguous n)
      (λ h. up m (λ ys t. NameFault m fs ys t Unbound n) i (faults.unbound (a_constructor s) h)) (λ h. up m (λ ys t. NameFault m fs ys t Ambiguous n) i (faults.ambiguous (a_constructor s) h))

  pub matched_means : (xs : Around) (w : Home) (n : Identifier) (ps : Patterns) → In m xs (pattern_part w (constructor_pattern n ps)) → ¬ (IsSpecial n) → (e : Entity) × Means m fs Constructors n e
  matched_means xs w n ps i s = looked_up Constructors n (no_fault Naming Unbound n) (no_fault Naming Ambiguous n)
      (λ h. up m (λ ys t. NameFault m fs ys t Unbound n) i (inl (faults.unbound (a_pattern s) h))) (λ h. up m (λ ys t. NameFault m fs ys t Ambiguous n) i (inl (faults.ambiguous (a_pattern s) h)))

module _ (m : Module) (fs : List Interface) (c : ModuleCore) (wf : IsWellFormed m fs) (r : Resolver) (a : IsResolver m fs r) where
  -- the variable v is the name that the resolver puts in place of n
  used_variable : (xs : Around) (ds : Around) (ys : Locals) (n v : Identifier) → ys ≡ texts xs → ds ≡ bares xs → v ≡ r.name Values ys n → In m xs (an_expression (variable_expression n)) →
      (t : Sense) × (OfVariable m fs xs n t × (MeansThere ds v t × ((v.line ≡ n.line) × (v.column ≡ n.column))))
  used_variable xs ds ys n v e f q i = go n.qualifier refl (contains_dec (texts xs) n.text)
    where
      outside : ¬ (IsLocal (texts xs) n) → (t : Sense) × (OfVariable m fs xs n t × (MeansThere ds v t × ((v.line ≡ n.line) × (v.column ≡ n.column))))
      outside l =
          let w = variable_means m fs wf xs n i l in
          let is : v ≡ as_entity n w.0 = q ∙ a.value ys n w.0 (subst (λ z. ¬ (IsLocal z n)) (sym e) l) w.1 in
          (uses.an_entity w.0, (global l (one w.1), (subst (λ z. MeansThere ds z (uses.an_entity w.0)) (sym is) (an_entity refl), (ap (λ (z : Identifier). z.line) is, ap (λ (z : Identifier). z.column) is))))

      inside : n.qualifier ≡ None → IsBoundIn n.text xs → (t : Sense) × (OfVariable m fs xs n t × (MeansThere ds v t × ((v.line ≡ n.line) × (v.column ≡ n.column))))
      inside b h =
          let g = first_of n.text xs h in
          let is : v ≡ n = q ∙ a.local ys n (b, subst (λ z. Contains z n.text) (sym e) h) in
          (local_variable g.0.line g.0.column, (innermost b g.1, (subst (λ z. MeansThere ds z (local_variable g.0.line g.0.column)) (sym is) (subst (λ z. MeansThere z n (local_variable g.0.line g.0.column)) (sym f) (a_local {b = bare g.0} b (first_bare n.text g.0 g.1))), (ap (λ (z : Identifier). z.line) is, ap (λ (z : Identifier). z.column) is))))

      go : (o : Option (List ℕ)) → n.qualifier ≡ o → Dec (IsBoundIn n.text xs) → (t : Sense) × (OfVariable m fs xs n t × (MeansThere ds v t × ((v.line ≡ n.line) × (v.column ≡ n.column))))
      go None b (yes h) = inside b h
      go None b (no h) = outside (λ l. h l.1)
      go (Some y) b d = outside (λ l. let z : Some y ≡ None = sym b ∙ l.0 in cc)

  pub same_used : (xs ds : Around) (ys : Locals) (n : Identifier) → ys ≡ texts xs → ds ≡ bares xs → In m xs (an_expression (variable_expression n)) → In (core_module m c) ds (an_expression (variable_expression (r.name Values ys n))) →
      Same m fs c (mention Variable false n) (mention Variable false (r.name Values ys n))
  same_used xs ds ys n e f i j =
      let w = used_variable xs ds ys n (r.name Values ys n) e f refl i in
      same_variable m fs c false n (r.name Values ys n) w.0 w.1.1.1.0 w.1.1.1.1 (uses.variable i w.1.0) (cores.variable j w.1.1.0)

  special_is : (n : Identifier) → IsSpecial n → is_special n ≡ true
  special_is n s = ap (λ o. is_some o) s.1

  entity_not_special : (n : Identifier) (e : Entity) (v : Identifier) → v ≡ as_entity n e → constructor_mention v ≡ mention Constructor false v
  entity_not_special n e v q = ap (λ z. cond (is_special z) [] (mention Constructor false v)) q

  -- a constructor: it is special in both, or an entity
  pub same_named : (n : Identifier) → (¬ (IsSpecial n) → (e : Entity) × Means m fs Constructors n e) →
      ((t : Sense) → ¬ (IsSpecial n) → ByScope m fs Constructors n t → InDeclarations m fs n Constructor false t) →
      ((t : Sense) → MeansThere [] (r.name Constructors [] n) t → InCore (core_module m c) (r.name Constructors [] n) Constructor false t) →
      Same m fs c (constructor_mention n) (constructor_mention (r.name Constructors [] n))
  same_named n means d w = go (special_of n) refl
    where
      go : (o : Option Special) → special_of n ≡ o → Same m fs c (constructor_mention n) (constructor_mention (r.name Constructors [] n))
      go (Some s) q =
          let is : r.name Constructors [] n ≡ n = a.special [] n (s, q) in
          let yes_special : is_special n ≡ true = special_is n (s, q) in
          let none : constructor_mention n ≡ [] = ap (λ b. cond b [] (mention Constructor false n)) yes_special in
          let none_too : constructor_mention (r.name Constructors [] n) ≡ [] = ap constructor_mention is ∙ none in
          same_silent m fs c (constructor_mention n) (constructor_mention (r.name Constructors [] n)) (ap (filter is_value) none) (ap (filter is_value) none_too)
      go None q =
          let plain : ¬ (IsSpecial n) = λ s. let z : None ≡ Some s.0 = sym q ∙ s.1 in cc in
          let e = means plain in
          let v = r.name Constructors [] n in
          let is : v ≡ as_entity n e.0 = a.constructor [] n e.0 plain e.1 in
          let there : MeansThere [] v (uses.an_entity e.0) = subst (λ z. MeansThere [] z (uses.an_entity e.0)) (sym is) (an_entity refl) in
          let shown : constructor_mention n ≡ mention Constructor false n = ap (λ o. cond (is_some o) [] (mention Constructor false n)) q in
          let shown_too : constructor_mention v ≡ mention Constructor false v = entity_not_special n e.0 v is in
          subst (λ l. Same m fs c l (constructor_mention v)) (sym shown) (subst (λ l. Same m fs c (mention Constructor false n) l) (sym shown_too)
          (same_constructor m fs c n v (uses.an_entity e.0) (ap (λ (z : Identifier). z.line) is) (ap (λ (z : Identifier). z.column) is) (d (uses.an_entity e.0) plain (one e.1)) (w (uses.an_entity e.0) there)))
