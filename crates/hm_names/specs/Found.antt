-- The faults that the walk over a tree finds, in its order, and the state of the walk. No public contract names these.
use Rattle.std.specs.Prelude.{ℕ, Bool, true, false, cond, ◌&&◌, ◌==◌, List, [], ◌∷◌, ◌++◌, map, Option, None, Some, is_some}
use Rattle.hm_types.specs.declared.Entity.{Entity}
use Rattle.hm_types.specs.Synonyms.{TypeSynonym}
use Rattle.hm_syntax.specs.Names.{Identifier}
use Rattle.hm_syntax.specs.Trees.{TypeTree, variable_type, constructor_type, function_type, tuple_type, list_type, unit_type, TypeTrees, no_types, more_types, DataConstructor, data_constructor, DataConstructors, no_constructors, more_constructors, Pattern, variable_pattern, bound_pattern, constructor_pattern, literal_pattern, wildcard_pattern, tuple_pattern, list_pattern, lazy_pattern, Patterns, no_patterns, more_patterns, Expression, variable_expression, constructor_expression, literal_expression, application, lambda, let_expression, if_expression, case_expression, tuple_expression, list_expression, typed_expression, Expressions, no_expressions, more_expressions, Declaration, data_declaration, newtype_declaration, synonym_declaration, signature, clause, pattern_binding, Declarations, no_declarations, more_declarations, RightSide, right_side, Bodies, no_bodies, plain_body, guarded_body, Alternative, alternative, Alternatives, no_alternatives, more_alternatives}
use Rattle.hm_syntax.specs.Sizes.{expression_size}
use Rattle.hm_names.specs.declared.namespace.Namespace.{Namespace}
use Rattle.hm_names.specs.declared.namespace.Namespace.TheVariants.{Types, Constructors, Values}
use Rattle.hm_names.specs.declared.faults.Kind.TheVariants.{Duplicate, NoBinding, Unbound, Ambiguous, NonLinear, Arity, ClauseLength}
use Rattle.hm_names.specs.declared.faults.Fault.{Fault}
use Rattle.hm_names.specs.Texts.{is_text_among}
use Rattle.hm_names.specs.Variables.{texts, patterns_variables, type_variables, constructor_variables, constructors_variables, clause_names, type_count, pattern_count}
use Rattle.hm_names.specs.Entities.{named}
use Rattle.hm_names.specs.Special.{Special, special_of, special_arity}
use Rattle.hm_names.specs.Described.{first_of}
use Rattle.hm_names.specs.Walk.{Locals, with_patterns, with_list}
use Rattle.hm_names.specs.Faults.Lists.{type_names, constructor_names, binding_names, signed_names, other_lengths}
use Rattle.hm_names.specs.Faults.Phases.{fault}
use Rattle.hm_names.specs.Expansion.{as_entity}
use Rattle.hm_names.specs.Resolved.{Resolver, Binders, bare, expression_with, pattern_with, right_side_with}
use Rattle.hm_names.specs.Bindings.{Pair, MeaningOf, unbound, ambiguous, entity, meaning_in}

-- a synonym with its entity
pub record KnownSynonym : Type 0 where
  pub entity : Entity
  pub synonym : TypeSynonym

-- a type constructor or constructor, with its number of arguments
pub record KnownArity : Type 0 where
  pub entity : Entity
  pub arity : ℕ

-- the tables of the walk: the scope, the synonyms, and the arities of type constructors and constructors
pub record Lookups : Type 0 where
  pub pairs : List Pair
  pub synonyms : List KnownSynonym
  pub types : List KnownArity
  pub constructors : List KnownArity

abbrev pub known_synonym : Option KnownSynonym → Option TypeSynonym
known_synonym None = None
known_synonym (Some s) = Some s.synonym

unfoldable pub synonym_among : List KnownSynonym → Entity → Option TypeSynonym
synonym_among ss e = known_synonym (first_of (λ s. s.entity) e ss)

abbrev pub no_qualifier : Option (List ℕ) → Bool
no_qualifier None = true
no_qualifier (Some q) = false

-- a variable is bound locally
abbrev pub is_local : Locals → Identifier → Bool
is_local xs n = no_qualifier n.qualifier && is_text_among n.text xs

abbrev pub is_special : Identifier → Bool
is_special n = is_some (special_of n)

-- the name isn't looked up in the scope
abbrev pub stays : Locals → Namespace → Identifier → Bool
stays xs Types n = false
stays xs Constructors n = is_special n
stays xs Values n = is_local xs n

-- the name with which the walk replaces a name of this meaning
abbrev pub as_meant : MeaningOf → Identifier → Identifier
as_meant unbound n = n
as_meant ambiguous n = n
as_meant (entity e) n = as_entity n e

unfoldable pub resolved_name : List Pair → Namespace → Locals → Identifier → Identifier
resolved_name ps s xs n = cond (stays xs s n) n (as_meant (meaning_in ps s n) n)

abbrev pub resolver_of : Lookups → Resolver
resolver_of k = record { name = resolved_name k.pairs; synonym = synonym_among k.synonyms }

-- the names with which the walk replaces names that are bound in the list of a module, or in another list
abbrev pub binder_of : Option (List ℕ) → Binders
binder_of None n = bare n
binder_of (Some m) n = as_entity n (named m n.text)

-- the faults of a name with this meaning
abbrev pub meaning_faults : MeaningOf → Identifier → List Fault
meaning_faults unbound n = fault Unbound n ∷ []
meaning_faults ambiguous n = fault Ambiguous n ∷ []
meaning_faults (entity e) n = []

unfoldable pub name_faults : List Pair → Namespace → Locals → Identifier → List Fault
name_faults ps s xs n = cond (stays xs s n) [] (meaning_faults (meaning_in ps s n) n)

-- the fault of a number of arguments other than the known one
abbrev pub other_arity : Option ℕ → ℕ → Identifier → List Fault
other_arity None count n = []
other_arity (Some k) count n = cond (count == k) [] (fault Arity n ∷ [])

abbrev pub arity_of : Option KnownArity → Option ℕ
arity_of None = None
arity_of (Some d) = Some d.arity

-- the arity in the first entry of the entity
unfoldable pub arity_among : List KnownArity → Entity → Option ℕ
arity_among ds e = arity_of (first_of (λ d. d.entity) e ds)

abbrev pub type_arity_meant : Lookups → MeaningOf → Option ℕ
type_arity_meant k unbound = None
type_arity_meant k ambiguous = None
type_arity_meant k (entity e) = arity_among k.types e

abbrev pub constructor_arity_meant : Lookups → MeaningOf → Option ℕ
constructor_arity_meant k unbound = None
constructor_arity_meant k ambiguous = None
constructor_arity_meant k (entity e) = arity_among k.constructors e

abbrev pub pattern_arity : Lookups → Option Special → Identifier → Option ℕ
pattern_arity k (Some s) n = Some (special_arity s)
pattern_arity k None n = constructor_arity_meant k (meaning_in k.pairs Constructors n)

-- the faults of a type constructor with `count` arguments, and of a constructor in a pattern
unfoldable pub type_name_faults : Lookups → Identifier → ℕ → List Fault
type_name_faults k n count = name_faults k.pairs Types [] n ++ other_arity (type_arity_meant k (meaning_in k.pairs Types n)) count n

unfoldable pub pattern_name_faults : Lookups → Identifier → ℕ → List Fault
pattern_name_faults k n count = name_faults k.pairs Constructors [] n ++ other_arity (pattern_arity k (special_of n) n) count n

-- the names that come after another one with the same text
unfoldable pub repeated : List (List ℕ) → List Identifier → List Identifier
repeated seen [] = []
repeated seen (n ∷ ns) = cond (is_text_among n.text seen) (n ∷ repeated (n.text ∷ seen) ns) (repeated (n.text ∷ seen) ns)

-- the names whose texts are not among these
unfoldable pub outside : List (List ℕ) → List Identifier → List Identifier
outside xs [] = []
outside xs (n ∷ ns) = cond (is_text_among n.text xs) (outside xs ns) (n ∷ outside xs ns)

abbrev pub non_linear : List Identifier → List Fault
non_linear ns = map (fault NonLinear) (repeated [] ns)

abbrev pub duplicates : List Identifier → List Fault
duplicates ns = map (fault Duplicate) (repeated [] ns)

-- the faults of the parameters of a type's declaration, and of the type variables that it uses
abbrev pub parameter_faults : List Identifier → List Identifier → List Fault
parameter_faults ps vs = duplicates ps ++ map (fault Unbound) (outside (texts ps) vs)

-- the faults of a declaration list without those of its parts
unfoldable pub list_faults : Declarations → List Fault
list_faults ds =
    duplicates (type_names ds) ++ (duplicates (constructor_names ds) ++ (duplicates (binding_names None ds) ++ (duplicates (signed_names ds)
    ++ (map (fault NoBinding) (outside (texts (clause_names ds)) (signed_names ds)) ++ map (fault ClauseLength) (other_lengths None ds)))))

abbrev mutual
  pub type_faults : Lookups → TypeTree → List Fault
  type_faults k (variable_type n) = []
  type_faults k (constructor_type n ts) = type_name_faults k n (type_count ts) ++ types_faults k ts
  type_faults k (function_type a b) = type_faults k a ++ type_faults k b
  type_faults k (tuple_type ts) = types_faults k ts
  type_faults k (list_type t) = type_faults k t
  type_faults k unit_type = []

  pub types_faults : Lookups → TypeTrees → List Fault
  types_faults k no_types = []
  types_faults k (more_types t ts) = type_faults k t ++ types_faults k ts

abbrev pub constructor_faults : Lookups → DataConstructor → List Fault
constructor_faults k (data_constructor n ts) = types_faults k ts

abbrev pub constructors_faults : Lookups → DataConstructors → List Fault
constructors_faults k no_constructors = []
constructors_faults k (more_constructors c cs) = constructor_faults k c ++ constructors_faults k cs

abbrev mutual
  pub pattern_faults : Lookups → Pattern → List Fault
  pattern_faults k (variable_pattern n) = []
  pattern_faults k (bound_pattern n p) = pattern_faults k p
  pattern_faults k (constructor_pattern n ps) = pattern_name_faults k n (pattern_count ps) ++ patterns_faults k ps
  pattern_faults k (literal_pattern l) = []
  pattern_faults k wildcard_pattern = []
  pattern_faults k (tuple_pattern ps) = patterns_faults k ps
  pattern_faults k (list_pattern ps) = patterns_faults k ps
  pattern_faults k (lazy_pattern p) = pattern_faults k p

  pub patterns_faults : Lookups → Patterns → List Fault
  patterns_faults k no_patterns = []
  patterns_faults k (more_patterns p ps) = pattern_faults k p ++ patterns_faults k ps

-- the faults of the patterns of one clause, lambda or alternative
abbrev pub head_faults : Lookups → Patterns → List Fault
head_faults k ps = non_linear (patterns_variables ps) ++ patterns_faults k ps

abbrev pub alone : Pattern → Patterns
alone p = more_patterns p no_patterns

abbrev mutual
  pub expression_faults : Lookups → Locals → Expression → List Fault
  expression_faults k xs (variable_expression n) = name_faults k.pairs Values xs n
  expression_faults k xs (constructor_expression n) = name_faults k.pairs Constructors xs n
  expression_faults k xs (literal_expression l) = []
  expression_faults k xs (application f a) = expression_faults k xs f ++ expression_faults k xs a
  expression_faults k xs (lambda ps e) = head_faults k ps ++ expression_faults k (with_patterns ps xs) e
  expression_faults k xs (let_expression ds e) = (list_faults ds ++ declarations_faults k (with_list ds xs) ds) ++ expression_faults k (with_list ds xs) e
  expression_faults k xs (if_expression a b c) = expression_faults k xs a ++ (expression_faults k xs b ++ expression_faults k xs c)
  expression_faults k xs (case_expression e rest) = expression_faults k xs e ++ alternatives_faults k xs rest
  expression_faults k xs (tuple_expression es) = expressions_faults k xs es
  expression_faults k xs (list_expression es) = expressions_faults k xs es
  expression_faults k xs (typed_expression e t) = expression_faults k xs e ++ type_faults k t

  pub expressions_faults : Lookups → Locals → Expressions → List Fault
  expressions_faults k xs no_expressions = []
  expressions_faults k xs (more_expressions e es) = expression_faults k xs e ++ expressions_faults k xs es

  pub alternative_faults : Lookups → Locals → Alternative → List Fault
  alternative_faults k xs (alternative p r) = head_faults k (alone p) ++ right_side_faults k (with_patterns (alone p) xs) r

  pub alternatives_faults : Lookups → Locals → Alternatives → List Fault
  alternatives_faults k xs no_alternatives = []
  alternatives_faults k xs (more_alternatives a rest) = alternative_faults k xs a ++ alternatives_faults k xs rest

  pub right_side_faults : Lookups → Locals → RightSide → List Fault
  right_side_faults k xs (right_side gs ds) = bodies_faults k (with_list ds xs) gs ++ (list_faults ds ++ declarations_faults k (with_list ds xs) ds)

  pub bodies_faults : Lookups → Locals → Bodies → List Fault
  bodies_faults k xs no_bodies = []
  bodies_faults k xs (plain_body e gs) = expression_faults k xs e ++ bodies_faults k xs gs
  bodies_faults k xs (guarded_body g e gs) = expression_faults k xs g ++ (expression_faults k xs e ++ bodies_faults k xs gs)

  pub declarations_faults : Lookups → Locals → Declarations → List Fault
  declarations_faults k xs no_declarations = []
  declarations_faults k xs (more_declarations d ds) = declaration_faults k xs d ++ declarations_faults k xs ds

  pub declaration_faults : Lookups → Locals → Declaration → List Fault
  declaration_faults k xs (data_declaration n ps cs) = parameter_faults ps (constructors_variables cs) ++ constructors_faults k cs
  declaration_faults k xs (newtype_declaration n ps c) = parameter_faults ps (constructor_variables c) ++ constructor_faults k c
  declaration_faults k xs (synonym_declaration n ps t) = parameter_faults ps (type_variables t) ++ type_faults k t
  declaration_faults k xs (signature ns t) = type_faults k t
  declaration_faults k xs (clause n ps r) = head_faults k ps ++ right_side_faults k (with_patterns ps xs) r
  declaration_faults k xs (pattern_binding line column p r) = head_faults k (alone p) ++ right_side_faults k xs r

-- the state of the walk: its tables, the local names in lists, the innermost first, and the faults so far
pub record Walking : Type 0 where
  pub known : Lookups
  pub groups : List (List (List ℕ))
  pub faults : List Fault

abbrev pub all_of : List (List (List ℕ)) → Locals
all_of [] = []
all_of (g ∷ gs) = g ++ all_of gs

abbrev pub locals_of : Walking → Locals
locals_of w = all_of w.groups

-- the state with these faults added
abbrev pub noting : List Fault → Walking → Walking
noting fs w = record w { faults = w.faults ++ fs }

-- the state inside a list of local names
abbrev pub entering : List (List ℕ) → Walking → Walking
entering g w = record w { groups = g ∷ w.groups }

abbrev pub rest_of : List (List (List ℕ)) → List (List (List ℕ))
rest_of [] = []
rest_of (g ∷ gs) = gs

-- the state after leaving the innermost list of local names
abbrev pub leaving : Walking → Walking
leaving w = record w { groups = rest_of w.groups }

-- The expressions of a right side, each with its guard, if it has one.

unfoldable pub alternative_with : Resolver → Locals → Alternative → Alternative
alternative_with r xs (alternative p g) = alternative (pattern_with r bare p) (right_side_with r (with_patterns (alone p) xs) g)

abbrev pub guard_with : Resolver → Locals → Option Expression → Option Expression
guard_with r xs None = None
guard_with r xs (Some g) = Some (expression_with r xs g)

abbrev pub part_with : Resolver → Locals → Option Expression × Expression → Option Expression × Expression
part_with r xs p = (guard_with r xs p.0, expression_with r xs p.1)

abbrev pub guard_faults : Lookups → Locals → Option Expression → List Fault
guard_faults k xs None = []
guard_faults k xs (Some g) = expression_faults k xs g

abbrev pub part_faults : Lookups → Locals → Option Expression × Expression → List Fault
part_faults k xs p = guard_faults k xs p.0 ++ expression_faults k xs p.1

abbrev pub parts_faults : Lookups → Locals → List (Option Expression × Expression) → List Fault
parts_faults k xs [] = []
parts_faults k xs (p ∷ ps) = part_faults k xs p ++ parts_faults k xs ps

abbrev pub guard_size : Option Expression → ℕ
guard_size None = 0
guard_size (Some g) = expression_size g

-- the tables of a walk
abbrev pub lookups_in : List Pair → List KnownSynonym → List KnownArity → List KnownArity → Lookups
lookups_in ps ss ts cs = record { pairs = ps; synonyms = ss; types = ts; constructors = cs }
