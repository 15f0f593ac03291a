-- Trees with resolved names and expanded synonyms. The name of an entity is qualified with its module. Names of local variables and of special
-- constructors are bare.
use Rattle.std.specs.Prelude.{◌≡◌, List, [], map, Option, None, Some}
use Rattle.hm_types.specs.declared.Entity.{Entity}
use Rattle.hm_types.specs.Interfaces.{Exports as Interface}
use Rattle.hm_types.specs.Synonyms.{TypeSynonym}
use Rattle.hm_syntax.specs.Names.{Identifier}
use Rattle.hm_syntax.specs.Trees.{TypeTree, variable_type, constructor_type, function_type, tuple_type, list_type, unit_type, TypeTrees, no_types, more_types, DataConstructor, data_constructor, DataConstructors, no_constructors, more_constructors, Pattern, variable_pattern, bound_pattern, constructor_pattern, literal_pattern, wildcard_pattern, tuple_pattern, list_pattern, lazy_pattern, Patterns, no_patterns, more_patterns, Expression, variable_expression, constructor_expression, literal_expression, application, lambda, let_expression, if_expression, case_expression, tuple_expression, list_expression, typed_expression, Expressions, no_expressions, more_expressions, Declaration, data_declaration, newtype_declaration, synonym_declaration, signature, clause, pattern_binding, Declarations, no_declarations, more_declarations, RightSide, right_side, Bodies, no_bodies, plain_body, guarded_body, alternative, Alternatives, no_alternatives, more_alternatives}
use Rattle.hm_syntax.specs.declared.ast.Module.{Module}
use Rattle.hm_names.specs.declared.namespace.Namespace.{Namespace}
use Rattle.hm_names.specs.declared.namespace.Namespace.TheVariants.{Types, Constructors, Values}
use Rattle.hm_names.specs.Entities.{own}
use Rattle.hm_names.specs.Types.{entity_of, synonym_of}
use Rattle.hm_names.specs.Expansion.{as_entity, expanded}
use Rattle.hm_names.specs.Special.{IsSpecial}
use Rattle.hm_names.specs.Scope.{Means}
use Rattle.hm_names.specs.Described.{TypeMeaning, algebraic, declared_synonym, imported_synonym, TypeDescription, type_meant}
use Rattle.hm_names.specs.Walk.{Locals, with_patterns, with_list}
use Rattle.hm_names.specs.Faults.Names.{IsLocal}

-- the replacement of each name under local variables, and the entities that are synonyms, with their right sides resolved and expanded
pub record Resolver : Type 0 where
  pub name : Namespace → Locals → Identifier → Identifier
  pub synonym : Entity → Option TypeSynonym

abbrev mutual
  pub type_with : Resolver → TypeTree → TypeTree
  type_with r (variable_type n) = variable_type n
  type_with r (constructor_type n ts) = expanded (r.synonym (entity_of (r.name Types [] n))) (r.name Types [] n) (types_with r ts)
  type_with r (function_type a b) = function_type (type_with r a) (type_with r b)
  type_with r (tuple_type ts) = tuple_type (types_with r ts)
  type_with r (list_type t) = list_type (type_with r t)
  type_with r unit_type = unit_type

  pub types_with : Resolver → TypeTrees → TypeTrees
  types_with r no_types = no_types
  types_with r (more_types t ts) = more_types (type_with r t) (types_with r ts)

-- the replacement of a type constructor, and the synonym that it is
abbrev pub synonym_meant : Resolver → TypeMeaning → Option TypeSynonym
synonym_meant r (algebraic k) = None
synonym_meant r (declared_synonym ps t) = Some (synonym_of ps (type_with r t))
synonym_meant r (imported_synonym s) = Some s

-- the resolver of the module replaces each name by its meaning
pub record IsResolver (m : Module) (fs : List Interface) (r : Resolver) : Type 0 where
  pub local : (xs : Locals) (n : Identifier) → IsLocal xs n → r.name Values xs n ≡ n
  pub value : (xs : Locals) (n : Identifier) (e : Entity) → ¬ (IsLocal xs n) → Means m fs Values n e → r.name Values xs n ≡ as_entity n e
  pub special : (xs : Locals) (n : Identifier) → IsSpecial n → r.name Constructors xs n ≡ n
  pub constructor : (xs : Locals) (n : Identifier) (e : Entity) → ¬ (IsSpecial n) → Means m fs Constructors n e → r.name Constructors xs n ≡ as_entity n e
  pub type : (xs : Locals) (n : Identifier) (e : Entity) → Means m fs Types n e → r.name Types xs n ≡ as_entity n e
  pub synonym : (e : Entity) (d : TypeDescription) → type_meant m.header.name.text m.decls fs e ≡ Some d → r.synonym e ≡ synonym_meant r d.meaning

-- binders: the replacement of a name where it is bound. Local names become bare, because a qualified name is never local. Names of a module's own
-- list become entities
abbrev pub Binders : Type 0
Binders = Identifier → Identifier

abbrev pub bare : Binders
bare n = record n { qualifier = None }

abbrev pub top : Module → Binders
top m n = as_entity n (own m n.text)

abbrev mutual
  pub pattern_with : Resolver → Binders → Pattern → Pattern
  pattern_with r b (variable_pattern n) = variable_pattern (b n)
  pattern_with r b (bound_pattern n p) = bound_pattern (b n) (pattern_with r b p)
  pattern_with r b (constructor_pattern n ps) = constructor_pattern (r.name Constructors [] n) (patterns_with r b ps)
  pattern_with r b (literal_pattern l) = literal_pattern l
  pattern_with r b wildcard_pattern = wildcard_pattern
  pattern_with r b (tuple_pattern ps) = tuple_pattern (patterns_with r b ps)
  pattern_with r b (list_pattern ps) = list_pattern (patterns_with r b ps)
  pattern_with r b (lazy_pattern p) = lazy_pattern (pattern_with r b p)

  pub patterns_with : Resolver → Binders → Patterns → Patterns
  patterns_with r b no_patterns = no_patterns
  patterns_with r b (more_patterns p ps) = more_patterns (pattern_with r b p) (patterns_with r b ps)

abbrev pub constructor_with : Resolver → Binders → DataConstructor → DataConstructor
constructor_with r b (data_constructor n ts) = data_constructor (b n) (types_with r ts)

abbrev pub constructors_with : Resolver → Binders → DataConstructors → DataConstructors
constructors_with r b no_constructors = no_constructors
constructors_with r b (more_constructors c cs) = more_constructors (constructor_with r b c) (constructors_with r b cs)

abbrev mutual
  pub expression_with : Resolver → Locals → Expression → Expression
  expression_with r xs (variable_expression n) = variable_expression (r.name Values xs n)
  expression_with r xs (constructor_expression n) = constructor_expression (r.name Constructors [] n)
  expression_with r xs (literal_expression l) = literal_expression l
  expression_with r xs (application f e) = application (expression_with r xs f) (expression_with r xs e)
  expression_with r xs (lambda ps e) = lambda (patterns_with r bare ps) (expression_with r (with_patterns ps xs) e)
  expression_with r xs (let_expression ds e) = let_expression (declarations_with r bare (with_list ds xs) ds) (expression_with r (with_list ds xs) e)
  expression_with r xs (if_expression a b c) = if_expression (expression_with r xs a) (expression_with r xs b) (expression_with r xs c)
  expression_with r xs (case_expression e bs) = case_expression (expression_with r xs e) (alternatives_with r xs bs)
  expression_with r xs (tuple_expression es) = tuple_expression (expressions_with r xs es)
  expression_with r xs (list_expression es) = list_expression (expressions_with r xs es)
  expression_with r xs (typed_expression e t) = typed_expression (expression_with r xs e) (type_with r t)

  pub expressions_with : Resolver → Locals → Expressions → Expressions
  expressions_with r xs no_expressions = no_expressions
  expressions_with r xs (more_expressions e es) = more_expressions (expression_with r xs e) (expressions_with r xs es)

  pub alternatives_with : Resolver → Locals → Alternatives → Alternatives
  alternatives_with r xs no_alternatives = no_alternatives
  alternatives_with r xs (more_alternatives (alternative p g) bs) =
      more_alternatives (alternative (pattern_with r bare p) (right_side_with r (with_patterns (more_patterns p no_patterns) xs) g)) (alternatives_with r xs bs)

  pub right_side_with : Resolver → Locals → RightSide → RightSide
  right_side_with r xs (right_side gs ds) = right_side (bodies_with r (with_list ds xs) gs) (declarations_with r bare (with_list ds xs) ds)

  pub bodies_with : Resolver → Locals → Bodies → Bodies
  bodies_with r xs no_bodies = no_bodies
  bodies_with r xs (plain_body e gs) = plain_body (expression_with r xs e) (bodies_with r xs gs)
  bodies_with r xs (guarded_body g e gs) = guarded_body (expression_with r xs g) (expression_with r xs e) (bodies_with r xs gs)

  pub declarations_with : Resolver → Binders → Locals → Declarations → Declarations
  declarations_with r b xs no_declarations = no_declarations
  declarations_with r b xs (more_declarations d ds) = more_declarations (declaration_with r b xs d) (declarations_with r b xs ds)

  pub declaration_with : Resolver → Binders → Locals → Declaration → Declaration
  declaration_with r b xs (data_declaration n ps cs) = data_declaration (b n) ps (constructors_with r b cs)
  declaration_with r b xs (newtype_declaration n ps c) = newtype_declaration (b n) ps (constructor_with r b c)
  declaration_with r b xs (synonym_declaration n ps t) = synonym_declaration (b n) ps (type_with r t)
  declaration_with r b xs (signature ns t) = signature (map b ns) (type_with r t)
  declaration_with r b xs (clause n ps g) = clause (b n) (patterns_with r bare ps) (right_side_with r (with_patterns ps xs) g)
  declaration_with r b xs (pattern_binding line column p g) = pattern_binding line column (pattern_with r b p) (right_side_with r xs g)

-- a module's declarations, resolved
abbrev pub resolved : Module → Resolver → List Declaration
resolved m r = map (declaration_with r (top m) []) m.decls
