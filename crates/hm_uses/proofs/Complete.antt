-- What is found in a part that stands in a module is found in the module.
use Rattle.std.proofs.Common.{List, [], ◌++◌, true, false}
use Rattle.std.proofs.lemmas.List.Elements.{Contains-append_left as left, Contains-append_right as right}
use Rattle.std.specs.List.{Contains}
use Rattle.hm_syntax.specs.Lists.{declarations}
use Rattle.hm_syntax.specs.declared.ast.Module.{Module}
use Rattle.hm_uses.specs.Scopes.{Around, Home, at_top, local_to, Part, a_type, some_types, a_constructor, some_constructors, a_pattern, some_patterns, an_expression, some_expressions, some_alternatives, a_right_side, some_bodies, a_declaration, some_declarations, In}
use Rattle.hm_uses.specs.Scopes as scopes
use Rattle.hm_uses.specs.Uses.{UseOf}
use Rattle.hm_names.specs.Variables.{pattern_variables, patterns_variables, type_variables, bound_names}
use Rattle.hm_names.specs.declared.namespace.Namespace.TheVariants.{Types}
use Rattle.hm_uses.specs.declared.name_kind.NameKind.TheVariants.{Constructor, TypeConstructor}
use Rattle.hm_uses.specs.Found.{Known, scope_sense, use_as, constructor_use, binder_use, signed_uses, parameter_uses, own_use, type_uses, types_uses, declared_constructor_uses, declared_constructors_uses, pattern_uses, patterns_uses, expression_uses, expressions_uses, alternatives_uses, right_side_uses, bodies_uses, declarations_uses, declaration_uses}

abbrev pub part_uses : Known → Around → Part → List UseOf
part_uses k xs (a_type vs t) = type_uses k vs t
part_uses k xs (some_types vs ts) = types_uses k vs ts
part_uses k xs (a_constructor vs c) = declared_constructor_uses k vs c
part_uses k xs (some_constructors vs cs) = declared_constructors_uses k vs cs
part_uses k xs (a_pattern h p) = pattern_uses k h p
part_uses k xs (some_patterns h ps) = patterns_uses k h ps
part_uses k xs (an_expression e) = expression_uses k xs e
part_uses k xs (some_expressions es) = expressions_uses k xs es
part_uses k xs (some_alternatives bs) = alternatives_uses k xs bs
part_uses k xs (a_right_side r) = right_side_uses k xs r
part_uses k xs (some_bodies gs) = bodies_uses k xs gs
part_uses k xs (a_declaration h d) = declaration_uses k xs h d
part_uses k xs (some_declarations h ds) = declarations_uses k xs h ds

module _ (m : Module) (k : Known) where
  pub within : {xs : Around} {p : Part} → In m xs p → (u : UseOf) → Contains (part_uses k xs p) u → Contains (declarations_uses k [] at_top (declarations m.decls)) u
  within scopes.top u w = w
  within (scopes.first_declaration {xs} {h} {d} {ds} i) u w = within i u (left (declaration_uses k xs h d) (declarations_uses k xs h ds) u w)
  within (scopes.later_declarations {xs} {h} {d} {ds} i) u w = within i u (right (declaration_uses k xs h d) (declarations_uses k xs h ds) u w)
  within (scopes.data_constructors {xs} {h} {n} {ps} {cs} i) u w = within i u (right (own_use k TypeConstructor n) (parameter_uses ps ps ++ declared_constructors_uses k ps cs) u (right (parameter_uses ps ps) (declared_constructors_uses k ps cs) u w))
  within (scopes.newtype_constructor {xs} {h} {n} {ps} {c} i) u w = within i u (right (own_use k TypeConstructor n) (parameter_uses ps ps ++ declared_constructor_uses k ps c) u (right (parameter_uses ps ps) (declared_constructor_uses k ps c) u w))
  within (scopes.synonym_type {xs} {h} {n} {ps} {t} i) u w = within i u (right (own_use k TypeConstructor n) (parameter_uses ps ps ++ type_uses k ps t) u (right (parameter_uses ps ps) (type_uses k ps t) u w))
  within (scopes.first_constructor {xs} {vs} {c} {cs} i) u w = within i u (left (declared_constructor_uses k vs c) (declared_constructors_uses k vs cs) u w)
  within (scopes.later_constructors {xs} {vs} {c} {cs} i) u w = within i u (right (declared_constructor_uses k vs c) (declared_constructors_uses k vs cs) u w)
  within (scopes.arguments {xs} {vs} {n} {ts} i) u w = within i u (right (own_use k Constructor n) (types_uses k vs ts) u w)
  within (scopes.signature_type {xs} {h} {ns} {t} i) u w = within i u (right (signed_uses k h ns) (type_uses k (type_variables t) t) u w)
  within (scopes.annotation {xs} {e} {t} i) u w = within i u (right (expression_uses k xs e) (type_uses k (type_variables t) t) u w)
  within (scopes.clause_patterns {xs} {h} {n} {ps} {r} i) u w = within i u (right (binder_use k h true n) (patterns_uses k (local_to (patterns_variables ps)) ps ++ right_side_uses k (patterns_variables ps ++ xs) r) u (left (patterns_uses k (local_to (patterns_variables ps)) ps) (right_side_uses k (patterns_variables ps ++ xs) r) u w))
  within (scopes.clause_side {xs} {h} {n} {ps} {r} i) u w = within i u (right (binder_use k h true n) (patterns_uses k (local_to (patterns_variables ps)) ps ++ right_side_uses k (patterns_variables ps ++ xs) r) u (right (patterns_uses k (local_to (patterns_variables ps)) ps) (right_side_uses k (patterns_variables ps ++ xs) r) u w))
  within (scopes.matched_pattern {xs} {h} {l} {c} {p} {r} i) u w = within i u (left (pattern_uses k h p) (right_side_uses k xs r) u w)
  within (scopes.matched_side {xs} {h} {l} {c} {p} {r} i) u w = within i u (right (pattern_uses k h p) (right_side_uses k xs r) u w)
  within (scopes.guarded {xs} {gs} {ds} i) u w = within i u (left (bodies_uses k (bound_names ds ++ xs) gs) (declarations_uses k (bound_names ds ++ xs) (local_to (bound_names ds)) ds) u w)
  within (scopes.where_list {xs} {gs} {ds} i) u w = within i u (right (bodies_uses k (bound_names ds ++ xs) gs) (declarations_uses k (bound_names ds ++ xs) (local_to (bound_names ds)) ds) u w)
  within (scopes.plain {xs} {e} {gs} i) u w = within i u (left (expression_uses k xs e) (bodies_uses k xs gs) u w)
  within (scopes.after_plain {xs} {e} {gs} i) u w = within i u (right (expression_uses k xs e) (bodies_uses k xs gs) u w)
  within (scopes.guard {xs} {g} {e} {gs} i) u w = within i u (left (expression_uses k xs g ++ expression_uses k xs e) (bodies_uses k xs gs) u (left (expression_uses k xs g) (expression_uses k xs e) u w))
  within (scopes.after_guard {xs} {g} {e} {gs} i) u w = within i u (left (expression_uses k xs g ++ expression_uses k xs e) (bodies_uses k xs gs) u (right (expression_uses k xs g) (expression_uses k xs e) u w))
  within (scopes.other_bodies {xs} {g} {e} {gs} i) u w = within i u (right (expression_uses k xs g ++ expression_uses k xs e) (bodies_uses k xs gs) u w)
  within (scopes.lambda_patterns {xs} {ps} {e} i) u w = within i u (left (patterns_uses k (local_to (patterns_variables ps)) ps) (expression_uses k (patterns_variables ps ++ xs) e) u w)
  within (scopes.lambda_body {xs} {ps} {e} i) u w = within i u (right (patterns_uses k (local_to (patterns_variables ps)) ps) (expression_uses k (patterns_variables ps ++ xs) e) u w)
  within (scopes.let_list {xs} {ds} {e} i) u w = within i u (left (declarations_uses k (bound_names ds ++ xs) (local_to (bound_names ds)) ds) (expression_uses k (bound_names ds ++ xs) e) u w)
  within (scopes.let_body {xs} {ds} {e} i) u w = within i u (right (declarations_uses k (bound_names ds ++ xs) (local_to (bound_names ds)) ds) (expression_uses k (bound_names ds ++ xs) e) u w)
  within (scopes.scrutinee {xs} {e} {bs} i) u w = within i u (left (expression_uses k xs e) (alternatives_uses k xs bs) u w)
  within (scopes.alternatives {xs} {e} {bs} i) u w = within i u (right (expression_uses k xs e) (alternatives_uses k xs bs) u w)
  within (scopes.alternative_pattern {xs} {p} {r} {bs} i) u w = within i u (left (pattern_uses k (local_to (pattern_variables p)) p ++ right_side_uses k (pattern_variables p ++ xs) r) (alternatives_uses k xs bs) u (left (pattern_uses k (local_to (pattern_variables p)) p) (right_side_uses k (pattern_variables p ++ xs) r) u w))
  within (scopes.alternative_side {xs} {p} {r} {bs} i) u w = within i u (left (pattern_uses k (local_to (pattern_variables p)) p ++ right_side_uses k (pattern_variables p ++ xs) r) (alternatives_uses k xs bs) u (right (pattern_uses k (local_to (pattern_variables p)) p) (right_side_uses k (pattern_variables p ++ xs) r) u w))
  within (scopes.later_alternatives {xs} {p} {r} {bs} i) u w = within i u (right (pattern_uses k (local_to (pattern_variables p)) p ++ right_side_uses k (pattern_variables p ++ xs) r) (alternatives_uses k xs bs) u w)
  within (scopes.function {xs} {f} {e} i) u w = within i u (left (expression_uses k xs f) (expression_uses k xs e) u w)
  within (scopes.argument {xs} {f} {e} i) u w = within i u (right (expression_uses k xs f) (expression_uses k xs e) u w)
  within (scopes.condition {xs} {a} {b} {c} i) u w = within i u (left (expression_uses k xs a) (expression_uses k xs b ++ expression_uses k xs c) u w)
  within (scopes.consequent {xs} {a} {b} {c} i) u w = within i u (right (expression_uses k xs a) (expression_uses k xs b ++ expression_uses k xs c) u (left (expression_uses k xs b) (expression_uses k xs c) u w))
  within (scopes.otherwise {xs} {a} {b} {c} i) u w = within i u (right (expression_uses k xs a) (expression_uses k xs b ++ expression_uses k xs c) u (right (expression_uses k xs b) (expression_uses k xs c) u w))
  within (scopes.components {xs} {es} i) u w = within i u w
  within (scopes.elements {xs} {es} i) u w = within i u w
  within (scopes.typed {xs} {e} {t} i) u w = within i u (left (expression_uses k xs e) (type_uses k (type_variables t) t) u w)
  within (scopes.first_expression {xs} {e} {es} i) u w = within i u (left (expression_uses k xs e) (expressions_uses k xs es) u w)
  within (scopes.later_expressions {xs} {e} {es} i) u w = within i u (right (expression_uses k xs e) (expressions_uses k xs es) u w)
  within (scopes.bound {xs} {h} {n} {p} i) u w = within i u (right (binder_use k h true n) (pattern_uses k h p) u w)
  within (scopes.constructor_arguments {xs} {h} {n} {ps} i) u w = within i u (right (constructor_use k n) (patterns_uses k h ps) u w)
  within (scopes.tuple_components {xs} {h} {ps} i) u w = within i u w
  within (scopes.list_elements {xs} {h} {ps} i) u w = within i u w
  within (scopes.lazily {xs} {h} {p} i) u w = within i u w
  within (scopes.first_pattern {xs} {h} {p} {ps} i) u w = within i u (left (pattern_uses k h p) (patterns_uses k h ps) u w)
  within (scopes.later_patterns {xs} {h} {p} {ps} i) u w = within i u (right (pattern_uses k h p) (patterns_uses k h ps) u w)
  within (scopes.type_arguments {xs} {vs} {n} {ts} i) u w = within i u (right (use_as TypeConstructor false n (scope_sense k Types n)) (types_uses k vs ts) u w)
  within (scopes.domain {xs} {vs} {a} {b} i) u w = within i u (left (type_uses k vs a) (type_uses k vs b) u w)
  within (scopes.range {xs} {vs} {a} {b} i) u w = within i u (right (type_uses k vs a) (type_uses k vs b) u w)
  within (scopes.tuple_types {xs} {vs} {ts} i) u w = within i u w
  within (scopes.element_type {xs} {vs} {t} i) u w = within i u w
  within (scopes.first_type {xs} {vs} {t} {ts} i) u w = within i u (left (type_uses k vs t) (types_uses k vs ts) u w)
  within (scopes.later_types {xs} {vs} {t} {ts} i) u w = within i u (right (type_uses k vs t) (types_uses k vs ts) u w)
