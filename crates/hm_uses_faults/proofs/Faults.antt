-- A fault of a name is a use that says so.
use Rattle.std.proofs.Common.{⊎_elim, List, [], subst, sym}
use Rattle.std.specs.List.{Contains}
use Rattle.std.proofs.lemmas.List.Elements.{Contains-append_cases}
use Rattle.hm_types.specs.Interfaces.{Exports as Interface}
use Rattle.hm_syntax.specs.Names.{Identifier}
use Rattle.hm_syntax.specs.Trees.{TypeTree, variable_type, constructor_type, function_type, tuple_type, list_type, unit_type, TypeTrees, no_types, more_types, DataConstructor, data_constructor, DataConstructors, no_constructors, more_constructors, Patterns, constructor_pattern, variable_expression, constructor_expression, Declarations}
use Rattle.hm_syntax.specs.declared.ast.Module.{Module}
use Rattle.hm_names.proofs.Members.{none_in, cases}
use Rattle.hm_names.specs.Variables.{texts, type_variables, types_variables, constructor_variables, constructors_variables}
use Rattle.hm_names.specs.Walk.{Locals, at_expression, at_pattern, at_type, at_head, at_parameters, at_list}
use Rattle.hm_names.specs.Faults.Names.{NameFault, Uses, IsLocal}
use Rattle.hm_names.specs.Faults.Names as faults
use Rattle.hm_names.specs.declared.faults.Kind.TheVariants.{Unbound, Ambiguous}
use Rattle.hm_uses.specs.declared.name_kind.NameKind.TheVariants.{Variable, Constructor, TypeVariable, TypeConstructor}
use Rattle.hm_uses.specs.Scopes.{Around, Home, In, a_type, some_types, a_constructor, some_constructors, a_pattern, an_expression}
use Rattle.hm_uses.specs.Scopes as scopes
use Rattle.hm_uses.specs.Uses.{InDeclarations, unbound, ambiguous, no_entity, several, global, no_parameter}
use Rattle.hm_uses.specs.Uses as uses
use Rattle.hm_uses_faults.specs.Laws.{IsUsedAs, NameFaultsAreUses}
use Rattle.hm_uses_faults.proofs.Down.{Cases, somewhere}

-- a variable of a type is at a part of it
module _ (m : Module) (n : Identifier) (vs : List Identifier) where
  mutual
    at_variable : (xs : Around) (t : TypeTree) → In m xs (a_type vs t) → Contains (type_variables t) n → In m xs (a_type vs (variable_type n))
    at_variable xs (variable_type v) i h = ⊎_elim (λ e. subst (λ y. In m xs (a_type vs (variable_type y))) (sym e) i) (λ o. absurd (none_in n o)) (cases v [] n h)
    at_variable xs (constructor_type v ts) i h = among_types xs ts (scopes.type_arguments i) h
    at_variable xs (function_type a b) i h = ⊎_elim (λ o. at_variable xs a (scopes.domain i) o) (λ o. at_variable xs b (scopes.range i) o) (Contains-append_cases (type_variables a) (type_variables b) n h)
    at_variable xs (tuple_type ts) i h = among_types xs ts (scopes.tuple_types i) h
    at_variable xs (list_type t) i h = at_variable xs t (scopes.element_type i) h
    at_variable xs unit_type i h = absurd (none_in n h)

    among_types : (xs : Around) (ts : TypeTrees) → In m xs (some_types vs ts) → Contains (types_variables ts) n → In m xs (a_type vs (variable_type n))
    among_types xs no_types i h = absurd (none_in n h)
    among_types xs (more_types t ts) i h = ⊎_elim (λ o. at_variable xs t (scopes.first_type i) o) (λ o. among_types xs ts (scopes.later_types i) o) (Contains-append_cases (type_variables t) (types_variables ts) n h)

  of_constructor : (xs : Around) (c : DataConstructor) → In m xs (a_constructor vs c) → Contains (constructor_variables c) n → In m xs (a_type vs (variable_type n))
  of_constructor xs (data_constructor v ts) i h = among_types xs ts (scopes.arguments i) h

  among_constructors : (xs : Around) (cs : DataConstructors) → In m xs (some_constructors vs cs) → Contains (constructors_variables cs) n → In m xs (a_type vs (variable_type n))
  among_constructors xs no_constructors i h = absurd (none_in n h)
  among_constructors xs (more_constructors c cs) i h = ⊎_elim (λ o. of_constructor xs c (scopes.first_constructor i) o) (λ o. among_constructors xs cs (scopes.later_constructors i) o) (Contains-append_cases (constructor_variables c) (constructors_variables cs) n h)

module _ (m : Module) (fs : List Interface) (n : Identifier) where
  unbound_variable : (xs : Around) (v : Identifier) → In m xs (an_expression (variable_expression v)) → NameFault m fs (texts xs) (at_expression (variable_expression v)) Unbound n → IsUsedAs m fs n unbound
  unbound_variable xs v i (faults.unbound (faults.a_variable l) h) = (Variable, uses.variable i (global l (no_entity h)))

  unbound_constructor : (xs : Around) (v : Identifier) → In m xs (an_expression (constructor_expression v)) → NameFault m fs (texts xs) (at_expression (constructor_expression v)) Unbound n → IsUsedAs m fs n unbound
  unbound_constructor xs v i (faults.unbound (faults.a_constructor s) h) = (Constructor, uses.constructor i s (no_entity h))

  unbound_pattern : (xs : Around) (w : Home) (v : Identifier) (ps : Patterns) → In m xs (a_pattern w (constructor_pattern v ps)) → (ys : Locals) → NameFault m fs ys (at_pattern (constructor_pattern v ps)) Unbound n → IsUsedAs m fs n unbound
  unbound_pattern xs w v ps i ys (faults.unbound (faults.a_pattern s) h) = (Constructor, uses.matched_constructor i s (no_entity h))

  unbound_type : (xs : Around) (vs : List Identifier) (v : Identifier) (ts : TypeTrees) → In m xs (a_type vs (constructor_type v ts)) → (ys : Locals) → NameFault m fs ys (at_type (constructor_type v ts)) Unbound n → IsUsedAs m fs n unbound
  unbound_type xs vs v ts i ys (faults.unbound faults.a_type_constructor h) = (TypeConstructor, uses.type_constructor i (no_entity h))

  bare_unbound : (ys : Locals) (v : Identifier) → NameFault m fs ys (at_type (variable_type v)) Unbound n → IsUsedAs m fs n unbound
  bare_unbound ys v (faults.unbound u h) = elim u [ ]

  in_data : (xs : Around) (ps : List Identifier) (cs : DataConstructors) → In m xs (some_constructors ps cs) → (ys : Locals) → NameFault m fs ys (at_parameters ps (constructors_variables cs)) Unbound n → IsUsedAs m fs n unbound
  in_data xs ps cs i ys (faults.unbound u h) = elim u [ ]
  in_data xs ps cs i ys (faults.no_parameter w h) = (TypeVariable, uses.in_type (among_constructors m n ps xs cs i w) (no_parameter h))

  in_newtype : (xs : Around) (ps : List Identifier) (c : DataConstructor) → In m xs (a_constructor ps c) → (ys : Locals) → NameFault m fs ys (at_parameters ps (constructor_variables c)) Unbound n → IsUsedAs m fs n unbound
  in_newtype xs ps c i ys (faults.unbound u h) = elim u [ ]
  in_newtype xs ps c i ys (faults.no_parameter w h) = (TypeVariable, uses.in_type (of_constructor m n ps xs c i w) (no_parameter h))

  in_synonym : (xs : Around) (ps : List Identifier) (t : TypeTree) → In m xs (a_type ps t) → (ys : Locals) → NameFault m fs ys (at_parameters ps (type_variables t)) Unbound n → IsUsedAs m fs n unbound
  in_synonym xs ps t i ys (faults.unbound u h) = elim u [ ]
  in_synonym xs ps t i ys (faults.no_parameter w h) = (TypeVariable, uses.in_type (at_variable m n ps xs t i w) (no_parameter h))

  head_unbound : (ys : Locals) (ps : Patterns) → NameFault m fs ys (at_head ps) Unbound n → IsUsedAs m fs n unbound
  head_unbound ys ps (faults.unbound u h) = elim u [ ]

  list_unbound : (ys : Locals) (ds : Declarations) → NameFault m fs ys (at_list ds) Unbound n → IsUsedAs m fs n unbound
  list_unbound ys ds (faults.unbound u h) = elim u [ ]

  ambiguous_variable : (xs : Around) (v : Identifier) → In m xs (an_expression (variable_expression v)) → NameFault m fs (texts xs) (at_expression (variable_expression v)) Ambiguous n → IsUsedAs m fs n ambiguous
  ambiguous_variable xs v i (faults.ambiguous (faults.a_variable l) h) = (Variable, uses.variable i (global l (several h)))

  ambiguous_constructor : (xs : Around) (v : Identifier) → In m xs (an_expression (constructor_expression v)) → NameFault m fs (texts xs) (at_expression (constructor_expression v)) Ambiguous n → IsUsedAs m fs n ambiguous
  ambiguous_constructor xs v i (faults.ambiguous (faults.a_constructor s) h) = (Constructor, uses.constructor i s (several h))

  ambiguous_pattern : (xs : Around) (w : Home) (v : Identifier) (ps : Patterns) → In m xs (a_pattern w (constructor_pattern v ps)) → (ys : Locals) → NameFault m fs ys (at_pattern (constructor_pattern v ps)) Ambiguous n → IsUsedAs m fs n ambiguous
  ambiguous_pattern xs w v ps i ys (faults.ambiguous (faults.a_pattern s) h) = (Constructor, uses.matched_constructor i s (several h))

  ambiguous_type : (xs : Around) (vs : List Identifier) (v : Identifier) (ts : TypeTrees) → In m xs (a_type vs (constructor_type v ts)) → (ys : Locals) → NameFault m fs ys (at_type (constructor_type v ts)) Ambiguous n → IsUsedAs m fs n ambiguous
  ambiguous_type xs vs v ts i ys (faults.ambiguous faults.a_type_constructor h) = (TypeConstructor, uses.type_constructor i (several h))

  bare_ambiguous : (ys : Locals) (v : Identifier) → NameFault m fs ys (at_type (variable_type v)) Ambiguous n → IsUsedAs m fs n ambiguous
  bare_ambiguous ys v (faults.ambiguous u h) = elim u [ ]

  parameters_ambiguous : (ps vs : List Identifier) (ys : Locals) → NameFault m fs ys (at_parameters ps vs) Ambiguous n → IsUsedAs m fs n ambiguous
  parameters_ambiguous ps vs ys (faults.ambiguous u h) = elim u [ ]

  head_ambiguous : (ys : Locals) (ps : Patterns) → NameFault m fs ys (at_head ps) Ambiguous n → IsUsedAs m fs n ambiguous
  head_ambiguous ys ps (faults.ambiguous u h) = elim u [ ]

  list_ambiguous : (ys : Locals) (ds : Declarations) → NameFault m fs ys (at_list ds) Ambiguous n → IsUsedAs m fs n ambiguous
  list_ambiguous ys ds (faults.ambiguous u h) = elim u [ ]

  unbound_cases : Cases m fs Unbound n (IsUsedAs m fs n unbound)
  unbound_cases = record {
    variable = unbound_variable;
    constructor = unbound_constructor;
    pattern = unbound_pattern;
    typed = unbound_type;
    bare_type = bare_unbound;
    in_data = in_data;
    in_newtype = in_newtype;
    in_synonym = in_synonym;
    head = head_unbound;
    list = list_unbound;
  }

  ambiguous_cases : Cases m fs Ambiguous n (IsUsedAs m fs n ambiguous)
  ambiguous_cases = record {
    variable = ambiguous_variable;
    constructor = ambiguous_constructor;
    pattern = ambiguous_pattern;
    typed = ambiguous_type;
    bare_type = bare_ambiguous;
    in_data = λ xs ps cs i ys h. parameters_ambiguous ps (constructors_variables cs) ys h;
    in_newtype = λ xs ps c i ys h. parameters_ambiguous ps (constructor_variables c) ys h;
    in_synonym = λ xs ps t i ys h. parameters_ambiguous ps (type_variables t) ys h;
    head = head_ambiguous;
    list = list_ambiguous;
  }

pub name_faults : NameFaultsAreUses
name_faults m fs n = record {
  of_unbound = somewhere m fs Unbound n (IsUsedAs m fs n unbound) (unbound_cases m fs n);
  of_ambiguous = somewhere m fs Ambiguous n (IsUsedAs m fs n ambiguous) (ambiguous_cases m fs n);
}
