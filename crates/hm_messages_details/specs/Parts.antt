-- The parts of a module in which details of faults are found. A declaration list and patterns are before all that is in the scope of their variables, and the end
-- of their scope is after that. No public clause names these.
use Rattle.std.specs.Prelude.{ℕ, List, [], ◌∷◌, ◌++◌, Option, Some, None, ◌⊎◌, ◌≡◌}
use Rattle.hm_syntax.specs.Names.{Identifier}
use Rattle.hm_syntax.specs.Trees.{TypeTree, variable_type, constructor_type, function_type, tuple_type, list_type, unit_type, TypeTrees, no_types, more_types, DataConstructor, data_constructor, DataConstructors, no_constructors, more_constructors, Pattern, variable_pattern, bound_pattern, constructor_pattern, literal_pattern, wildcard_pattern, tuple_pattern, list_pattern, lazy_pattern, Patterns, no_patterns, more_patterns, Expression, variable_expression, constructor_expression, literal_expression, application, lambda, let_expression, if_expression, case_expression, tuple_expression, list_expression, typed_expression, Expressions, no_expressions, more_expressions, Declaration, data_declaration, newtype_declaration, synonym_declaration, signature, clause, pattern_binding, Declarations, no_declarations, more_declarations, RightSide, right_side, Bodies, no_bodies, plain_body, guarded_body, Alternative, alternative, Alternatives, no_alternatives, more_alternatives}
use Rattle.hm_syntax.specs.Lists.{declarations, patterns, types}
use Rattle.hm_names.specs.Walk.{Node, at_expression, at_pattern, at_type, at_head, at_parameters, at_list}
use Rattle.hm_lex.specs.declared.token.Place.{Place}
use Rattle.hm_types.specs.Interfaces.{Exports as Interface}
use Rattle.hm_syntax.specs.declared.ast.Module.{Module}
use Rattle.hm_names.specs.Faults.Lists.{binding_names, constructor_names, signed_names, type_names}
use Rattle.hm_names.specs.Variables.{pattern_count, patterns_variables, type_count}
use Rattle.hm_names.specs.declared.faults.Fault.{Fault}
use Rattle.hm_messages_details.specs.Counts.{ConstructorTakes, HasLengths, LaterClause, TypeTakes}
use Rattle.hm_messages_details.specs.Firsts.{IsAt, IsFirstAt}
use Rattle.hm_messages_details.specs.NearBindings.{IsNearBinding}
use Rattle.hm_messages_details.specs.PatternBindings.{IsPatternBound}
use Rattle.hm_messages_details.specs.declared.lengths.Later.{Later}
use Rattle.hm_messages_details.specs.declared.parts.ModulePart.{ModulePart as LentPart}
use Rattle.hm_messages_details.specs.declared.parts.ModulePart.TheVariants as lent
use Rattle.hm_messages_details.specs.declared.role.Role.{Role}
use Rattle.hm_messages_details.specs.declared.role.Role.TheVariants.{Variable, Constructor, TypeConstructor, TypeVariable}

-- a declaration list; the patterns of one clause, lambda or alternative; the parameters of a type's declaration; a constructor in a pattern, and a
-- type constructor, each with its arguments; a variable or a constructor of an expression, or a type variable; the end of the scope of a list or of patterns
pub data ModulePart : Type 0 where
  a_list : Declarations → ModulePart
  a_head : Patterns → ModulePart
  a_row : List Identifier → ModulePart
  a_pattern : Identifier → Patterns → ModulePart
  a_type : Identifier → TypeTrees → ModulePart
  a_use : Role → Identifier → ModulePart
  an_end : ModulePart

-- the node of a tree is this part
pub data IsPart : Node → ModulePart → Type 0 where
  list_is : {ds : Declarations} → IsPart (at_list ds) (a_list ds)
  head_is : {ps : Patterns} → IsPart (at_head ps) (a_head ps)
  parameters_are : {ps vs : List Identifier} → IsPart (at_parameters ps vs) (a_row ps)
  pattern_is : {n : Identifier} {ps : Patterns} → IsPart (at_pattern (constructor_pattern n ps)) (a_pattern n ps)
  type_is : {n : Identifier} {ts : TypeTrees} → IsPart (at_type (constructor_type n ts)) (a_type n ts)
  variable_is : {n : Identifier} → IsPart (at_expression (variable_expression n)) (a_use Variable n)
  constructor_is : {n : Identifier} → IsPart (at_expression (constructor_expression n)) (a_use Constructor n)
  type_variable_is : {n : Identifier} → IsPart (at_type (variable_type n)) (a_use TypeVariable n)

abbrev pub part_of : LentPart → ModulePart
part_of (lent.List ds) = a_list (declarations ds.now)
part_of (lent.Head ps) = a_head (patterns ps.now)
part_of (lent.Alone p) = a_head (more_patterns p.now no_patterns)
part_of (lent.Parameters ps) = a_row ps.now
part_of (lent.Pattern n ps) = a_pattern n.now (patterns ps.now)
part_of (lent.Type n ts) = a_type n.now (types ts.now)
part_of (lent.Use r n) = a_use r n.now
part_of lent.End = an_end

abbrev mutual
  pub type_parts : TypeTree → List ModulePart
  type_parts (variable_type n) = a_use TypeVariable n ∷ []
  type_parts (constructor_type n ts) = a_type n ts ∷ types_parts ts
  type_parts (function_type a b) = type_parts a ++ type_parts b
  type_parts (tuple_type ts) = types_parts ts
  type_parts (list_type t) = type_parts t
  type_parts unit_type = []

  pub types_parts : TypeTrees → List ModulePart
  types_parts no_types = []
  types_parts (more_types t ts) = type_parts t ++ types_parts ts

abbrev pub constructor_parts : DataConstructor → List ModulePart
constructor_parts (data_constructor n ts) = types_parts ts

abbrev pub constructors_parts : DataConstructors → List ModulePart
constructors_parts no_constructors = []
constructors_parts (more_constructors c cs) = constructor_parts c ++ constructors_parts cs

abbrev mutual
  pub pattern_parts : Pattern → List ModulePart
  pattern_parts (variable_pattern n) = []
  pattern_parts (bound_pattern n p) = pattern_parts p
  pattern_parts (constructor_pattern n ps) = a_pattern n ps ∷ patterns_parts ps
  pattern_parts (literal_pattern l) = []
  pattern_parts wildcard_pattern = []
  pattern_parts (tuple_pattern ps) = patterns_parts ps
  pattern_parts (list_pattern ps) = patterns_parts ps
  pattern_parts (lazy_pattern p) = pattern_parts p

  pub patterns_parts : Patterns → List ModulePart
  patterns_parts no_patterns = []
  patterns_parts (more_patterns p ps) = pattern_parts p ++ patterns_parts ps

abbrev pub head_parts : Patterns → List ModulePart
head_parts ps = patterns_parts ps ++ a_head ps ∷ []

-- parts in a scope, and its end
abbrev pub ended : List ModulePart → List ModulePart
ended ps = ps ++ an_end ∷ []

abbrev mutual
  pub expression_parts : Expression → List ModulePart
  expression_parts (variable_expression n) = a_use Variable n ∷ []
  expression_parts (constructor_expression n) = a_use Constructor n ∷ []
  expression_parts (literal_expression l) = []
  expression_parts (application f e) = expression_parts f ++ expression_parts e
  expression_parts (lambda ps e) = head_parts ps ++ ended (expression_parts e)
  expression_parts (let_expression ds e) = (a_list ds ∷ declarations_parts ds) ++ ended (expression_parts e)
  expression_parts (if_expression a b c) = expression_parts a ++ (expression_parts b ++ expression_parts c)
  expression_parts (case_expression e bs) = expression_parts e ++ alternatives_parts bs
  expression_parts (tuple_expression es) = expressions_parts es
  expression_parts (list_expression es) = expressions_parts es
  expression_parts (typed_expression e t) = expression_parts e ++ type_parts t

  pub expressions_parts : Expressions → List ModulePart
  expressions_parts no_expressions = []
  expressions_parts (more_expressions e es) = expression_parts e ++ expressions_parts es

  pub alternative_parts : Alternative → List ModulePart
  alternative_parts (alternative p r) = head_parts (more_patterns p no_patterns) ++ ended (right_side_parts r)

  pub alternatives_parts : Alternatives → List ModulePart
  alternatives_parts no_alternatives = []
  alternatives_parts (more_alternatives a bs) = alternative_parts a ++ alternatives_parts bs

  pub right_side_parts : RightSide → List ModulePart
  right_side_parts (right_side gs ds) = (a_list ds ∷ declarations_parts ds) ++ ended (bodies_parts gs)

  pub bodies_parts : Bodies → List ModulePart
  bodies_parts no_bodies = []
  bodies_parts (plain_body e gs) = expression_parts e ++ bodies_parts gs
  bodies_parts (guarded_body g e gs) = expression_parts g ++ (expression_parts e ++ bodies_parts gs)

  pub declarations_parts : Declarations → List ModulePart
  declarations_parts no_declarations = []
  declarations_parts (more_declarations d ds) = declaration_parts d ++ declarations_parts ds

  pub declaration_parts : Declaration → List ModulePart
  declaration_parts (data_declaration n ps cs) = a_row ps ∷ constructors_parts cs
  declaration_parts (newtype_declaration n ps c) = a_row ps ∷ constructor_parts c
  declaration_parts (synonym_declaration n ps t) = a_row ps ∷ type_parts t
  declaration_parts (signature ns t) = type_parts t
  declaration_parts (clause n ps r) = head_parts ps ++ ended (right_side_parts r)
  declaration_parts (pattern_binding line column p r) = ended (head_parts (more_patterns p no_patterns)) ++ right_side_parts r

-- the parts of the module with these declarations
abbrev pub module_parts : List Declaration → List ModulePart
module_parts ds = a_list (declarations ds) ∷ declarations_parts (declarations ds)

abbrev pub guard_parts : Option Expression → List ModulePart
guard_parts None = []
guard_parts (Some g) = expression_parts g

abbrev pub bodies_of_parts : List (Option Expression × Expression) → List ModulePart
bodies_of_parts [] = []
bodies_of_parts (p ∷ ps) = (guard_parts p.0 ++ expression_parts p.1) ++ bodies_of_parts ps

-- what details state, of a part in place of a node

abbrev pub IsFirstIn : ModulePart → Fault → Place → Type 0
IsFirstIn (a_list ds) f p =
    IsFirstAt (type_names ds) f p ⊎ (IsFirstAt (constructor_names ds) f p ⊎ (IsFirstAt (binding_names None ds) f p ⊎ IsFirstAt (signed_names ds) f p))
IsFirstIn (a_head ps) f p = IsFirstAt (patterns_variables ps) f p
IsFirstIn (a_row ps) f p = IsFirstAt ps f p
IsFirstIn (a_pattern n ps) f p = ⊥
IsFirstIn (a_type n ts) f p = ⊥
IsFirstIn (a_use r n) f p = ⊥
IsFirstIn an_end f p = ⊥

abbrev pub IsPartRole : ModulePart → Fault → Role → Type 0
IsPartRole (a_list ds) f r = ⊥
IsPartRole (a_head ps) f r = ⊥
IsPartRole (a_row ps) f r = ⊥
IsPartRole (a_pattern n ps) f r = (r ≡ Constructor) × IsAt f n
IsPartRole (a_type n ts) f r = (r ≡ TypeConstructor) × IsAt f n
IsPartRole (a_use s n) f r = (r ≡ s) × IsAt f n
IsPartRole an_end f r = ⊥

abbrev pub HasArgumentsIn : Module → List Interface → Fault → ℕ → ℕ → ModulePart → Type 0
HasArgumentsIn m fs f here takes (a_list ds) = ⊥
HasArgumentsIn m fs f here takes (a_head ps) = ⊥
HasArgumentsIn m fs f here takes (a_row ps) = ⊥
HasArgumentsIn m fs f here takes (a_pattern n ps) = IsAt f n × (here ≡ pattern_count ps) × ConstructorTakes m fs n takes
HasArgumentsIn m fs f here takes (a_type n ts) = IsAt f n × (here ≡ type_count ts) × TypeTakes m fs n takes
HasArgumentsIn m fs f here takes (a_use r n) = ⊥
HasArgumentsIn m fs f here takes an_end = ⊥

abbrev pub HasLengthsIn : Fault → ℕ → ℕ → ModulePart → Type 0
HasLengthsIn f here first (a_list ds) = HasLengths f here first ds
HasLengthsIn f here first (a_head ps) = ⊥
HasLengthsIn f here first (a_row ps) = ⊥
HasLengthsIn f here first (a_pattern n ps) = ⊥
HasLengthsIn f here first (a_type n ts) = ⊥
HasLengthsIn f here first (a_use r n) = ⊥
HasLengthsIn f here first an_end = ⊥

abbrev pub IsNearBindingIn : ModulePart → Fault → List ℕ → Type 0
IsNearBindingIn (a_list ds) f x = IsNearBinding ds f x
IsNearBindingIn (a_head ps) f x = ⊥
IsNearBindingIn (a_row ps) f x = ⊥
IsNearBindingIn (a_pattern n ps) f x = ⊥
IsNearBindingIn (a_type n ts) f x = ⊥
IsNearBindingIn (a_use r n) f x = ⊥
IsNearBindingIn an_end f x = ⊥

abbrev pub IsPatternBoundIn : ModulePart → Fault → Type 0
IsPatternBoundIn (a_list ds) f = IsPatternBound ds f
IsPatternBoundIn (a_head ps) f = ⊥
IsPatternBoundIn (a_row ps) f = ⊥
IsPatternBoundIn (a_pattern n ps) f = ⊥
IsPatternBoundIn (a_type n ts) f = ⊥
IsPatternBoundIn (a_use r n) f = ⊥
IsPatternBoundIn an_end f = ⊥

-- a clause that continues a binding, as the code has it
abbrev pub later_of : Later → LaterClause
later_of l = record { name = l.name.now; here = l.here; first = l.first }
