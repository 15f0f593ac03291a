-- A rule that holds at a part of a module holds somewhere in it.
use Rattle.std.proofs.Common.{List, ◌++◌, inl, inr, subst, sym}
use Rattle.std.specs.List.{Contains}
use Rattle.std.proofs.lemmas.List.Elements.{Contains-append_left as left, Contains-append_right as right}
use Rattle.hm_syntax.specs.Names.{Identifier}
use Rattle.hm_syntax.specs.Trees.{TypeTree, TypeTrees, DataConstructor, DataConstructors}
use Rattle.hm_syntax.specs.declared.ast.Module.{Module}
use Rattle.hm_types.specs.Interfaces.{Exports as Interface}
use Rattle.hm_names.proofs.DeclaredPairs.{map_contains}
use Rattle.hm_names.specs.declared.faults.Kind.TheVariants.{Unbound}
use Rattle.hm_names.specs.Faults.Names.{NameFault}
use Rattle.hm_names.specs.Faults.Names as faults
use Rattle.hm_names.specs.Variables.{texts, pattern_variables, patterns_variables, type_variables, types_variables, constructor_variables, constructors_variables, bound_names}
use Rattle.hm_names.specs.Walk.{Locals, Node, Somewhere, InType, InTypes, InConstructor, InConstructors, InPattern, InPatterns, InExpression, InExpressions, InAlternatives, InRightSide, InBodies, InDeclarations, InDeclaration}
use Rattle.hm_uses.specs.Scopes.{Around, Home, Part, In, a_type, some_types, a_constructor, some_constructors, a_pattern, some_patterns, an_expression, some_expressions, some_alternatives, a_right_side, some_bodies, a_declaration, some_declarations}
use Rattle.hm_uses.specs.Scopes as scopes
use Rattle.hm_uses_faults.proofs.Down.{of_one, wider}

module _ (m : Module) (Q : Locals → Node → Type 0) where
  abbrev pub Holds : Around → Part → Type 0
  Holds xs (a_type vs t) = InType Q (texts xs) t
  Holds xs (some_types vs ts) = InTypes Q (texts xs) ts
  Holds xs (a_constructor vs c) = InConstructor Q (texts xs) c
  Holds xs (some_constructors vs cs) = InConstructors Q (texts xs) cs
  Holds xs (a_pattern h p) = InPattern Q (texts xs) p
  Holds xs (some_patterns h ps) = InPatterns Q (texts xs) ps
  Holds xs (an_expression e) = InExpression Q (texts xs) e
  Holds xs (some_expressions es) = InExpressions Q (texts xs) es
  Holds xs (some_alternatives bs) = InAlternatives Q (texts xs) bs
  Holds xs (a_right_side r) = InRightSide Q (texts xs) r
  Holds xs (some_bodies gs) = InBodies Q (texts xs) gs
  Holds xs (a_declaration h d) = InDeclaration Q (texts xs) d
  Holds xs (some_declarations h ds) = InDeclarations Q (texts xs) ds

  pub up : {xs : Around} {p : Part} → In m xs p → Holds xs p → Somewhere m Q
  up scopes.top h = inr h
  up (scopes.first_declaration i) h = up i (inl h)
  up (scopes.later_declarations i) h = up i (inr h)
  up (scopes.data_constructors i) h = up i (inr h)
  up (scopes.newtype_constructor i) h = up i (inr h)
  up (scopes.synonym_type i) h = up i (inr h)
  up (scopes.first_constructor i) h = up i (inl h)
  up (scopes.later_constructors i) h = up i (inr h)
  up (scopes.arguments i) h = up i h
  up (scopes.signature_type i) h = up i h
  up (scopes.annotation i) h = up i (inr h)
  up (scopes.clause_patterns i) h = up i (inl (inr h))
  up (scopes.clause_side {xs} {h} {n} {ps} {r} i) w = up i (inr (subst (λ l. InRightSide Q l r) (wider (patterns_variables ps) xs) w))
  up (scopes.matched_pattern i) h = up i (inl (inr (inl h)))
  up (scopes.matched_side i) h = up i (inr h)
  up (scopes.guarded {xs} {gs} {ds} i) w = up i (inl (subst (λ l. InBodies Q l gs) (wider (bound_names ds) xs) w))
  up (scopes.where_list {xs} {gs} {ds} i) w = up i (inr (inr (subst (λ l. InDeclarations Q l ds) (wider (bound_names ds) xs) w)))
  up (scopes.plain i) h = up i (inl h)
  up (scopes.after_plain i) h = up i (inr h)
  up (scopes.guard i) h = up i (inl h)
  up (scopes.after_guard i) h = up i (inr (inl h))
  up (scopes.other_bodies i) h = up i (inr (inr h))
  up (scopes.lambda_patterns i) h = up i (inl (inr h))
  up (scopes.lambda_body {xs} {ps} {e} i) w = up i (inr (subst (λ l. InExpression Q l e) (wider (patterns_variables ps) xs) w))
  up (scopes.let_list {xs} {ds} {e} i) w = up i (inl (inr (subst (λ l. InDeclarations Q l ds) (wider (bound_names ds) xs) w)))
  up (scopes.let_body {xs} {ds} {e} i) w = up i (inr (subst (λ l. InExpression Q l e) (wider (bound_names ds) xs) w))
  up (scopes.scrutinee i) h = up i (inl h)
  up (scopes.alternatives i) h = up i (inr h)
  up (scopes.alternative_pattern i) h = up i (inl (inr (inl h)))
  up (scopes.alternative_side {xs} {p} {r} {bs} i) w = up i (inr (inl (subst (λ vs. InRightSide Q (texts vs ++ texts xs) r) (sym (of_one p)) (subst (λ l. InRightSide Q l r) (wider (pattern_variables p) xs) w))))
  up (scopes.later_alternatives i) h = up i (inr (inr h))
  up (scopes.function i) h = up i (inl h)
  up (scopes.argument i) h = up i (inr h)
  up (scopes.condition i) h = up i (inl h)
  up (scopes.consequent i) h = up i (inr (inl h))
  up (scopes.otherwise i) h = up i (inr (inr h))
  up (scopes.components i) h = up i h
  up (scopes.elements i) h = up i h
  up (scopes.typed i) h = up i (inl h)
  up (scopes.first_expression i) h = up i (inl h)
  up (scopes.later_expressions i) h = up i (inr h)
  up (scopes.bound i) h = up i h
  up (scopes.constructor_arguments i) h = up i (inr h)
  up (scopes.tuple_components i) h = up i h
  up (scopes.list_elements i) h = up i h
  up (scopes.lazily i) h = up i h
  up (scopes.first_pattern i) h = up i (inl h)
  up (scopes.later_patterns i) h = up i (inr h)
  up (scopes.type_arguments i) h = up i (inr h)
  up (scopes.domain i) h = up i (inl h)
  up (scopes.range i) h = up i (inr h)
  up (scopes.tuple_types i) h = up i h
  up (scopes.element_type i) h = up i h
  up (scopes.first_type i) h = up i (inl h)
  up (scopes.later_types i) h = up i (inr h)

-- a type variable without a binder is a fault of its declaration
module _ (m : Module) (fs : List Interface) (n : Identifier) where
  abbrev IsUnbound : Locals → Node → Type 0
  IsUnbound ys t = NameFault m fs ys t Unbound n

  -- one of the variables is n, and no binder has its text
  abbrev IsFree : List Identifier → List Identifier → Type 0
  IsFree vs ns = Contains ns n × ¬ (Contains (texts vs) n.text)

  bound_there : (ns : List Identifier) → IsFree ns ns → ⊥
  bound_there ns h = h.1 (map_contains (λ (y : Identifier). y.text) ns n h.0)

  mutual
    pub type_up : {xs : Around} {vs : List Identifier} {t : TypeTree} → In m xs (a_type vs t) → IsFree vs (type_variables t) → Somewhere m IsUnbound
    type_up (scopes.synonym_type i) h = up m IsUnbound i (inl (faults.no_parameter h.0 h.1))
    type_up (scopes.signature_type {t = t} i) h = absurd (bound_there (type_variables t) h)
    type_up (scopes.annotation {t = t} i) h = absurd (bound_there (type_variables t) h)
    type_up (scopes.domain {xs} {vs} {a} {b} i) h = type_up i (left (type_variables a) (type_variables b) n h.0, h.1)
    type_up (scopes.range {xs} {vs} {a} {b} i) h = type_up i (right (type_variables a) (type_variables b) n h.0, h.1)
    type_up (scopes.element_type i) h = type_up i h
    type_up (scopes.first_type {xs} {vs} {t} {ts} i) h = types_up i (left (type_variables t) (types_variables ts) n h.0, h.1)

    types_up : {xs : Around} {vs : List Identifier} {ts : TypeTrees} → In m xs (some_types vs ts) → IsFree vs (types_variables ts) → Somewhere m IsUnbound
    types_up (scopes.arguments i) h = constructor_up i h
    types_up (scopes.type_arguments i) h = type_up i h
    types_up (scopes.tuple_types i) h = type_up i h
    types_up (scopes.later_types {xs} {vs} {t} {ts} i) h = types_up i (right (type_variables t) (types_variables ts) n h.0, h.1)

    constructor_up : {xs : Around} {vs : List Identifier} {c : DataConstructor} → In m xs (a_constructor vs c) → IsFree vs (constructor_variables c) → Somewhere m IsUnbound
    constructor_up (scopes.newtype_constructor i) h = up m IsUnbound i (inl (faults.no_parameter h.0 h.1))
    constructor_up (scopes.first_constructor {xs} {vs} {c} {cs} i) h = constructors_up i (left (constructor_variables c) (constructors_variables cs) n h.0, h.1)

    constructors_up : {xs : Around} {vs : List Identifier} {cs : DataConstructors} → In m xs (some_constructors vs cs) → IsFree vs (constructors_variables cs) → Somewhere m IsUnbound
    constructors_up (scopes.data_constructors i) h = up m IsUnbound i (inl (faults.no_parameter h.0 h.1))
    constructors_up (scopes.later_constructors {xs} {vs} {c} {cs} i) h = constructors_up i (right (constructor_variables c) (constructors_variables cs) n h.0, h.1)
