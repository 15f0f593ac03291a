-- References over trees: free occurrences of a variable (Report 3 and 4.5.1), with the scopes of patterns, let and where. This is specs/Mentions of
-- hm_typing, over the trees of a source.
use Rattle.std.specs.Prelude.{◌≡◌, cond, ◌⊎◌, List, [], ◌∷◌, ◌++◌}
use Rattle.hm_syntax.specs.Trees.{Pattern, variable_pattern, bound_pattern, constructor_pattern, literal_pattern, wildcard_pattern, tuple_pattern, list_pattern, lazy_pattern, Patterns, no_patterns, more_patterns, Expression, variable_expression, constructor_expression, literal_expression, application, lambda, let_expression, if_expression, case_expression, tuple_expression, list_expression, typed_expression, Expressions, no_expressions, more_expressions, Declaration, data_declaration, newtype_declaration, synonym_declaration, signature, clause, pattern_binding, Declarations, no_declarations, more_declarations, RightSide, right_side, Bodies, no_bodies, plain_body, guarded_body, Alternative, alternative, Alternatives, no_alternatives, more_alternatives}
use Rattle.hm_typing.specs.Names.{IsOneOf}
use Rattle.hm_names.specs.Syntax.{is_continued}
use Rattle.hm_names_keys.specs.Variables.{Variable, variable_of}

-- the variables that patterns bind
abbrev mutual
  pub pattern_variables : Pattern → List Variable
  pattern_variables (variable_pattern n) = variable_of n ∷ []
  pattern_variables (bound_pattern n p) = variable_of n ∷ pattern_variables p
  pattern_variables (constructor_pattern n ps) = patterns_variables ps
  pattern_variables (literal_pattern l) = []
  pattern_variables wildcard_pattern = []
  pattern_variables (tuple_pattern ps) = patterns_variables ps
  pattern_variables (list_pattern ps) = patterns_variables ps
  pattern_variables (lazy_pattern p) = pattern_variables p

  pub patterns_variables : Patterns → List Variable
  patterns_variables no_patterns = []
  patterns_variables (more_patterns p ps) = pattern_variables p ++ patterns_variables ps

-- the variables of the binding that a declaration ends, before those after it. Of the clauses of a binding, only the last counts
abbrev pub binding_variables : Declaration → Declarations → List Variable
binding_variables (data_declaration n ps cs) ds = []
binding_variables (newtype_declaration n ps c) ds = []
binding_variables (synonym_declaration n ps t) ds = []
binding_variables (signature ns t) ds = []
binding_variables (clause n ps r) ds = cond (is_continued n.text ps ds) [] (variable_of n ∷ [])
binding_variables (pattern_binding l c p r) ds = pattern_variables p

abbrev pub list_variables : Declarations → List Variable
list_variables no_declarations = []
list_variables (more_declarations d ds) = binding_variables d ds ++ list_variables ds

abbrev mutual
  pub Refers : Variable → Expression → Type 0
  Refers y (variable_expression n) = y ≡ variable_of n
  Refers y (constructor_expression n) = ⊥
  Refers y (literal_expression l) = ⊥
  Refers y (application f e) = Refers y f ⊎ Refers y e
  Refers y (lambda ps e) = ¬ (IsOneOf y (patterns_variables ps)) × Refers y e
  Refers y (let_expression ds e) = ¬ (IsOneOf y (list_variables ds)) × (DeclarationsRefer y ds ⊎ Refers y e)
  Refers y (if_expression a b c) = Refers y a ⊎ (Refers y b ⊎ Refers y c)
  Refers y (case_expression e rest) = Refers y e ⊎ AlternativesRefer y rest
  Refers y (tuple_expression es) = ExpressionsRefer y es
  Refers y (list_expression es) = ExpressionsRefer y es
  Refers y (typed_expression e t) = Refers y e

  pub ExpressionsRefer : Variable → Expressions → Type 0
  ExpressionsRefer y no_expressions = ⊥
  ExpressionsRefer y (more_expressions e es) = Refers y e ⊎ ExpressionsRefer y es

  pub DeclarationRefers : Variable → Declaration → Type 0
  DeclarationRefers y (data_declaration n ps cs) = ⊥
  DeclarationRefers y (newtype_declaration n ps c) = ⊥
  DeclarationRefers y (synonym_declaration n ps t) = ⊥
  DeclarationRefers y (signature ns t) = ⊥
  DeclarationRefers y (clause n ps r) = ¬ (IsOneOf y (patterns_variables ps)) × RightSideRefers y r
  DeclarationRefers y (pattern_binding l c p r) = RightSideRefers y r

  pub DeclarationsRefer : Variable → Declarations → Type 0
  DeclarationsRefer y no_declarations = ⊥
  DeclarationsRefer y (more_declarations d ds) = DeclarationRefers y d ⊎ DeclarationsRefer y ds

  pub RightSideRefers : Variable → RightSide → Type 0
  RightSideRefers y (right_side gs ds) = ¬ (IsOneOf y (list_variables ds)) × (BodiesRefer y gs ⊎ DeclarationsRefer y ds)

  pub BodiesRefer : Variable → Bodies → Type 0
  BodiesRefer y no_bodies = ⊥
  BodiesRefer y (plain_body e gs) = Refers y e ⊎ BodiesRefer y gs
  BodiesRefer y (guarded_body g e gs) = Refers y g ⊎ (Refers y e ⊎ BodiesRefer y gs)

  pub AlternativeRefers : Variable → Alternative → Type 0
  AlternativeRefers y (alternative p r) = ¬ (IsOneOf y (pattern_variables p)) × RightSideRefers y r

  pub AlternativesRefer : Variable → Alternatives → Type 0
  AlternativesRefer y no_alternatives = ⊥
  AlternativesRefer y (more_alternatives a rest) = AlternativeRefers y a ⊎ AlternativesRefer y rest
