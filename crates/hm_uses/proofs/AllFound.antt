-- All names that stand in the declarations of a module are found there, each with its only meaning.
use Rattle.std.proofs.Common.{◌≡◌, Bool, true, false, cond, List, [], ◌∷◌, ◌++◌, Option, None, Some, is_some, ⊎_elim, refl, sym, ap, ◌∙◌}
use Rattle.std.specs.List.{Contains}
use Rattle.std.proofs.lemmas.List.Elements.{Contains-append_left as left, Contains-append_right as right}
use Rattle.hm_types.specs.Interfaces.{Exports as Interface}
use Rattle.hm_syntax.specs.Names.{Identifier}
use Rattle.hm_syntax.specs.Lists.{declarations}
use Rattle.hm_syntax.specs.declared.ast.Module.{Module}
use Rattle.hm_names.specs.declared.namespace.Namespace.TheVariants.{Types, Constructors}
use Rattle.hm_names.specs.Entities.{named, own}
use Rattle.hm_names.specs.Special.{Special, IsSpecial, special_of}
use Rattle.hm_names.specs.Variables.{patterns_variables, type_variables}
use Rattle.hm_names.proofs.Members.{first_by, none_in, cases, rest}
use Rattle.hm_uses.specs.declared.name_kind.NameKind.{NameKind}
use Rattle.hm_uses.specs.declared.name_kind.NameKind.TheVariants.{Variable, Constructor, TypeVariable, TypeConstructor}
use Rattle.hm_uses.specs.Scopes.{Home, at_top, local_to}
use Rattle.hm_uses.specs.Uses.{Sense, an_entity, UseOf, InDeclarations}
use Rattle.hm_uses.specs.Uses as uses
use Rattle.hm_uses.specs.Found.{Known, Knows, scope_sense, variable_sense, binder_sense, parameter_sense, use_as, constructor_use, binder_use, signed_uses, parameter_uses, own_use, type_uses, types_uses, declared_constructor_uses, declared_constructors_uses, pattern_uses, patterns_uses, right_side_uses, declarations_uses}
use Rattle.hm_uses.proofs.Complete.{within}
use Rattle.hm_uses.proofs.Senses.{one_scope, one_variable, one_binder, one_type_variable}

abbrev use_with : Identifier → NameKind → Bool → Sense → UseOf
use_with n s b t = record { mention = record { name = n; kind = s; binds = b }; sense = t }

single : (n : Identifier) (s : NameKind) (b : Bool) (t u : Sense) → t ≡ u → Contains (use_as s b n u) (use_with n s b t)
single n s b t u e = first_by (use_with n s b u) [] (use_with n s b t) (ap (use_with n s b) e)

of_constructor : (k : Known) (n : Identifier) (t : Sense) → ¬ (IsSpecial n) → t ≡ scope_sense k Constructors n → Contains (constructor_use k n) (use_with n Constructor false t)
of_constructor k n t h e = go (special_of n) refl
  where
    go : (o : Option Special) → special_of n ≡ o → Contains (cond (is_some o) [] (use_as Constructor false n (scope_sense k Constructors n))) (use_with n Constructor false t)
    go None q = single n Constructor false t (scope_sense k Constructors n) e
    go (Some s) q = absurd (h (s, q))

of_signed : (k : Known) (h : Home) (ns : List Identifier) (n : Identifier) (t : Sense) → Contains ns n → t ≡ binder_sense k n.text h → Contains (signed_uses k h ns) (use_with n Variable false t)
of_signed k h [] n t c e = absurd (none_in n c)
of_signed k h (y ∷ ns) n t c e = ⊎_elim
    (λ s. first_by (use_with y Variable false (binder_sense k y.text h)) (signed_uses k h ns) (use_with n Variable false t) (ap (use_with n Variable false) e ∙ ap (λ (z : Identifier). use_with z Variable false (binder_sense k z.text h)) s))
    (λ o. rest (use_with y Variable false (binder_sense k y.text h)) (signed_uses k h ns) (use_with n Variable false t) (of_signed k h ns n t o e)) (cases y ns n c)

of_parameters : (vs ns : List Identifier) (n : Identifier) (t : Sense) → Contains ns n → t ≡ parameter_sense n.text vs → Contains (parameter_uses vs ns) (use_with n TypeVariable true t)
of_parameters vs [] n t c e = absurd (none_in n c)
of_parameters vs (y ∷ ns) n t c e = ⊎_elim
    (λ s. first_by (use_with y TypeVariable true (parameter_sense y.text vs)) (parameter_uses vs ns) (use_with n TypeVariable true t) (ap (use_with n TypeVariable true) e ∙ ap (λ (z : Identifier). use_with z TypeVariable true (parameter_sense z.text vs)) s))
    (λ o. rest (use_with y TypeVariable true (parameter_sense y.text vs)) (parameter_uses vs ns) (use_with n TypeVariable true t) (of_parameters vs ns n t o e)) (cases y ns n c)

module _ (m : Module) (fs : List Interface) (k : Known) (a : Knows m fs k) where
  owned : (n : Identifier) (s : NameKind) → Contains (own_use k s n) (use_with n s true (an_entity (own m n.text)))
  owned n s = single n s true (an_entity (own m n.text)) (an_entity (named k.home n.text)) (ap (λ y. an_entity (named y n.text)) (sym a.home))

  pub all_found : (n : Identifier) (s : NameKind) (b : Bool) (t : Sense) → InDeclarations m fs n s b t → Contains (declarations_uses k [] at_top (declarations m.decls)) (use_with n s b t)
  all_found n s b t (uses.variable {xs} i o) = within m k i (use_with n s b t) (single n s b t (variable_sense k xs n) (one_variable m fs k a xs n t o))
  all_found n s b t (uses.constructor i h o) = within m k i (use_with n s b t) (of_constructor k n t h (one_scope m fs k a Constructors n t o))
  all_found n s b t (uses.bound_variable {xs} {h} i o) = within m k i (use_with n s b t) (single n s b t (binder_sense k n.text h) (one_binder m fs k a n.text h t o))
  all_found n s b t (uses.as_variable {xs} {h} {p} i o) = within m k i (use_with n s b t) (left (binder_use k h true n) (pattern_uses k h p) (use_with n s b t) (single n s b t (binder_sense k n.text h) (one_binder m fs k a n.text h t o)))
  all_found n s b t (uses.matched_constructor {xs} {h} {ps} i q o) = within m k i (use_with n s b t) (left (constructor_use k n) (patterns_uses k h ps) (use_with n s b t) (of_constructor k n t q (one_scope m fs k a Constructors n t o)))
  all_found n s b t (uses.in_type {xs} {vs} i o) = within m k i (use_with n s b t) (single n s b t (parameter_sense n.text vs) (one_type_variable n.text vs t o))
  all_found n s b t (uses.type_constructor {xs} {vs} {ts} i o) = within m k i (use_with n s b t) (left (use_as TypeConstructor false n (scope_sense k Types n)) (types_uses k vs ts) (use_with n s b t) (single n s b t (scope_sense k Types n) (one_scope m fs k a Types n t o)))
  all_found n s b t (uses.data_type {xs} {h} {ps} {cs} i) = within m k i (use_with n s b t) (left (own_use k TypeConstructor n) (parameter_uses ps ps ++ declared_constructors_uses k ps cs) (use_with n s b t) (owned n s))
  all_found n s b t (uses.newtype {xs} {h} {ps} {c} i) = within m k i (use_with n s b t) (left (own_use k TypeConstructor n) (parameter_uses ps ps ++ declared_constructor_uses k ps c) (use_with n s b t) (owned n s))
  all_found n s b t (uses.synonym {xs} {h} {ps} {ty} i) = within m k i (use_with n s b t) (left (own_use k TypeConstructor n) (parameter_uses ps ps ++ type_uses k ps ty) (use_with n s b t) (owned n s))
  all_found n s b t (uses.data_parameter {xs} {h} {k = y} {ps} {cs} i c o) = within m k i (use_with n s b t) (right (own_use k TypeConstructor y) (parameter_uses ps ps ++ declared_constructors_uses k ps cs) (use_with n s b t) (left (parameter_uses ps ps) (declared_constructors_uses k ps cs) (use_with n s b t) (of_parameters ps ps n t c (one_type_variable n.text ps t o))))
  all_found n s b t (uses.newtype_parameter {xs} {h} {k = y} {ps} {c = d} i c o) = within m k i (use_with n s b t) (right (own_use k TypeConstructor y) (parameter_uses ps ps ++ declared_constructor_uses k ps d) (use_with n s b t) (left (parameter_uses ps ps) (declared_constructor_uses k ps d) (use_with n s b t) (of_parameters ps ps n t c (one_type_variable n.text ps t o))))
  all_found n s b t (uses.synonym_parameter {xs} {h} {k = y} {ps} {ty} i c o) = within m k i (use_with n s b t) (right (own_use k TypeConstructor y) (parameter_uses ps ps ++ type_uses k ps ty) (use_with n s b t) (left (parameter_uses ps ps) (type_uses k ps ty) (use_with n s b t) (of_parameters ps ps n t c (one_type_variable n.text ps t o))))
  all_found n s b t (uses.declared_constructor {xs} {vs} {ts} i) = within m k i (use_with n s b t) (left (own_use k Constructor n) (types_uses k vs ts) (use_with n s b t) (owned n s))
  all_found n s b t (uses.signed {xs} {h} {ns} {ty} i c o) = within m k i (use_with n s b t) (left (signed_uses k h ns) (type_uses k (type_variables ty) ty) (use_with n s b t) (of_signed k h ns n t c (one_binder m fs k a n.text h t o)))
  all_found n s b t (uses.defined {xs} {h} {ps} {r} i o) = within m k i (use_with n s b t) (left (binder_use k h true n) (patterns_uses k (local_to (patterns_variables ps)) ps ++ right_side_uses k (patterns_variables ps ++ xs) r) (use_with n s b t) (single n s b t (binder_sense k n.text h) (one_binder m fs k a n.text h t o)))
