-- The faults that the walk notes are those that stand somewhere in the tree, where this holds at each node.
use Rattle.std.proofs.Common.{List, ◌↔◌}
use Rattle.std.specs.List.{Contains}
use Rattle.hm_syntax.specs.Names.{Identifier}
use Rattle.hm_syntax.specs.Trees.{TypeTree, variable_type, constructor_type, function_type, tuple_type, list_type, unit_type, TypeTrees, no_types, more_types, DataConstructor, data_constructor, DataConstructors, no_constructors, more_constructors, Pattern, variable_pattern, bound_pattern, constructor_pattern, literal_pattern, wildcard_pattern, tuple_pattern, list_pattern, lazy_pattern, Patterns, no_patterns, more_patterns, Expression, variable_expression, constructor_expression, literal_expression, application, lambda, let_expression, if_expression, case_expression, tuple_expression, list_expression, typed_expression, Expressions, no_expressions, more_expressions, Declaration, data_declaration, newtype_declaration, synonym_declaration, signature, clause, pattern_binding, Declarations, no_declarations, more_declarations, RightSide, right_side, Bodies, no_bodies, plain_body, guarded_body, alternative, Alternatives, no_alternatives, more_alternatives}
use Rattle.hm_names.specs.declared.namespace.Namespace.TheVariants.{Constructors, Values}
use Rattle.hm_names.specs.declared.faults.Fault.{Fault}
use Rattle.hm_names.specs.Variables.{patterns_variables, type_variables, constructor_variables, constructors_variables, type_count, pattern_count}
use Rattle.hm_names.specs.Walk.{Locals, Node, at_expression, at_pattern, at_type, at_head, at_parameters, at_list, with_patterns, with_list, InType, InTypes, InConstructor, InConstructors, InPattern, InPatterns, InHead, InExpression, InExpressions, InAlternatives, InRightSide, InBodies, InDeclarations, InDeclaration}
use Rattle.hm_names.specs.Found.{Lookups, name_faults, type_name_faults, pattern_name_faults, non_linear, parameter_faults, list_faults, alone, type_faults, types_faults, constructor_faults, constructors_faults, pattern_faults, patterns_faults, head_faults, expression_faults, expressions_faults, alternatives_faults, right_side_faults, bodies_faults, declarations_faults, declaration_faults}
use Rattle.hm_names.proofs.Members.{both, three, nothing, nothing_by}

-- at each node just what the rule says is noted of the fault f
pub record Leaves (k : Lookups) (f : Fault) (Q : Locals → Node → Type 0) : Type 0 where
  pub type_variable : (xs : Locals) (n : Identifier) → Q xs (at_type (variable_type n)) → ⊥
  pub type_name : (xs : Locals) (n : Identifier) (ts : TypeTrees) → Contains (type_name_faults k n (type_count ts)) f ↔ Q xs (at_type (constructor_type n ts))
  pub pattern_name : (xs : Locals) (n : Identifier) (ps : Patterns) → Contains (pattern_name_faults k n (pattern_count ps)) f ↔ Q xs (at_pattern (constructor_pattern n ps))
  pub variable : (xs : Locals) (n : Identifier) → Contains (name_faults k.pairs Values xs n) f ↔ Q xs (at_expression (variable_expression n))
  pub constructor : (xs : Locals) (n : Identifier) → Contains (name_faults k.pairs Constructors xs n) f ↔ Q xs (at_expression (constructor_expression n))
  pub head : (xs : Locals) (ps : Patterns) → Contains (non_linear (patterns_variables ps)) f ↔ Q xs (at_head ps)
  pub parameters : (xs : Locals) (ps vs : List Identifier) → Contains (parameter_faults ps vs) f ↔ Q xs (at_parameters ps vs)
  pub list : (xs : Locals) (ds : Declarations) → Contains (list_faults ds) f ↔ Q xs (at_list ds)

module _ (k : Lookups) (f : Fault) (Q : Locals → Node → Type 0) (h : Leaves k f Q) where
  mutual
    pub in_type : (xs : Locals) (t : TypeTree) → Contains (type_faults k t) f ↔ InType Q xs t
    in_type xs (variable_type n) = nothing_by f (h.type_variable xs n)
    in_type xs (constructor_type n ts) = both _ _ f (h.type_name xs n ts) (in_types xs ts)
    in_type xs (function_type a b) = both _ _ f (in_type xs a) (in_type xs b)
    in_type xs (tuple_type ts) = in_types xs ts
    in_type xs (list_type t) = in_type xs t
    in_type xs unit_type = nothing f

    pub in_types : (xs : Locals) (ts : TypeTrees) → Contains (types_faults k ts) f ↔ InTypes Q xs ts
    in_types xs no_types = nothing f
    in_types xs (more_types t ts) = both _ _ f (in_type xs t) (in_types xs ts)

  pub in_constructor : (xs : Locals) (c : DataConstructor) → Contains (constructor_faults k c) f ↔ InConstructor Q xs c
  in_constructor xs (data_constructor n ts) = in_types xs ts

  pub in_constructors : (xs : Locals) (cs : DataConstructors) → Contains (constructors_faults k cs) f ↔ InConstructors Q xs cs
  in_constructors xs no_constructors = nothing f
  in_constructors xs (more_constructors c cs) = both _ _ f (in_constructor xs c) (in_constructors xs cs)

  mutual
    pub in_pattern : (xs : Locals) (p : Pattern) → Contains (pattern_faults k p) f ↔ InPattern Q xs p
    in_pattern xs (variable_pattern n) = nothing f
    in_pattern xs (bound_pattern n p) = in_pattern xs p
    in_pattern xs (constructor_pattern n ps) = both _ _ f (h.pattern_name xs n ps) (in_patterns xs ps)
    in_pattern xs (literal_pattern l) = nothing f
    in_pattern xs wildcard_pattern = nothing f
    in_pattern xs (tuple_pattern ps) = in_patterns xs ps
    in_pattern xs (list_pattern ps) = in_patterns xs ps
    in_pattern xs (lazy_pattern p) = in_pattern xs p

    pub in_patterns : (xs : Locals) (ps : Patterns) → Contains (patterns_faults k ps) f ↔ InPatterns Q xs ps
    in_patterns xs no_patterns = nothing f
    in_patterns xs (more_patterns p ps) = both _ _ f (in_pattern xs p) (in_patterns xs ps)

  pub in_head : (xs : Locals) (ps : Patterns) → Contains (head_faults k ps) f ↔ InHead Q xs ps
  in_head xs ps = both _ _ f (h.head xs ps) (in_patterns xs ps)

  mutual
    pub in_expression : (xs : Locals) (e : Expression) → Contains (expression_faults k xs e) f ↔ InExpression Q xs e
    in_expression xs (variable_expression n) = h.variable xs n
    in_expression xs (constructor_expression n) = h.constructor xs n
    in_expression xs (literal_expression l) = nothing f
    in_expression xs (application a b) = both _ _ f (in_expression xs a) (in_expression xs b)
    in_expression xs (lambda ps e) = both _ _ f (in_head xs ps) (in_expression (with_patterns ps xs) e)
    in_expression xs (let_expression ds e) = both _ _ f (both _ _ f (h.list (with_list ds xs) ds) (in_declarations (with_list ds xs) ds)) (in_expression (with_list ds xs) e)
    in_expression xs (if_expression a b c) = both _ _ f (in_expression xs a) (both _ _ f (in_expression xs b) (in_expression xs c))
    in_expression xs (case_expression e rest) = both _ _ f (in_expression xs e) (in_alternatives xs rest)
    in_expression xs (tuple_expression es) = in_expressions xs es
    in_expression xs (list_expression es) = in_expressions xs es
    in_expression xs (typed_expression e t) = both _ _ f (in_expression xs e) (in_type xs t)

    pub in_expressions : (xs : Locals) (es : Expressions) → Contains (expressions_faults k xs es) f ↔ InExpressions Q xs es
    in_expressions xs no_expressions = nothing f
    in_expressions xs (more_expressions e es) = both _ _ f (in_expression xs e) (in_expressions xs es)

    pub in_alternatives : (xs : Locals) (rest : Alternatives) → Contains (alternatives_faults k xs rest) f ↔ InAlternatives Q xs rest
    in_alternatives xs no_alternatives = nothing f
    in_alternatives xs (more_alternatives (alternative p r) rest) =
        three _ _ _ f (in_head xs (alone p)) (in_right_side (with_patterns (alone p) xs) r) (in_alternatives xs rest)

    pub in_right_side : (xs : Locals) (r : RightSide) → Contains (right_side_faults k xs r) f ↔ InRightSide Q xs r
    in_right_side xs (right_side gs ds) = both _ _ f (in_bodies (with_list ds xs) gs) (both _ _ f (h.list (with_list ds xs) ds) (in_declarations (with_list ds xs) ds))

    pub in_bodies : (xs : Locals) (gs : Bodies) → Contains (bodies_faults k xs gs) f ↔ InBodies Q xs gs
    in_bodies xs no_bodies = nothing f
    in_bodies xs (plain_body e gs) = both _ _ f (in_expression xs e) (in_bodies xs gs)
    in_bodies xs (guarded_body g e gs) = both _ _ f (in_expression xs g) (both _ _ f (in_expression xs e) (in_bodies xs gs))

    pub in_declarations : (xs : Locals) (ds : Declarations) → Contains (declarations_faults k xs ds) f ↔ InDeclarations Q xs ds
    in_declarations xs no_declarations = nothing f
    in_declarations xs (more_declarations d ds) = both _ _ f (in_declaration xs d) (in_declarations xs ds)

    pub in_declaration : (xs : Locals) (d : Declaration) → Contains (declaration_faults k xs d) f ↔ InDeclaration Q xs d
    in_declaration xs (data_declaration n ps cs) = both _ _ f (h.parameters xs ps (constructors_variables cs)) (in_constructors xs cs)
    in_declaration xs (newtype_declaration n ps c) = both _ _ f (h.parameters xs ps (constructor_variables c)) (in_constructor xs c)
    in_declaration xs (synonym_declaration n ps t) = both _ _ f (h.parameters xs ps (type_variables t)) (in_type xs t)
    in_declaration xs (signature ns t) = in_type xs t
    in_declaration xs (clause n ps r) = both _ _ f (in_head xs ps) (in_right_side (with_patterns ps xs) r)
    in_declaration xs (pattern_binding line column p r) = both _ _ f (in_head xs (alone p)) (in_right_side xs r)
