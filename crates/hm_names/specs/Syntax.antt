-- Resolved trees as the syntax of inference: clauses are grouped into bindings, signatures are at their bindings, constructors are their types.
-- Why: docs/DECISIONS.md, "Names of pattern bindings".
use Rattle.std.specs.Prelude.{ℕ, suc, Bool, false, cond, ◌&&◌, ◌||◌, List, [], ◌∷◌, Option, None, Some}
use Rattle.hm_types.specs.Schemes.{TypeScheme}
use Rattle.hm_typing.specs.Programs.{monotype_of}
use Rattle.hm_typing.specs.Schemes.{Monotype}
use Rattle.hm_typing.specs.Names.{Identifier as Name, local, global, binding}
use Rattle.hm_typing.specs.Syntax as typed
use Rattle.hm_syntax.specs.Names.{Identifier, LiteralTree, integer, character, string}
use Rattle.hm_syntax.specs.Trees.{Pattern, variable_pattern, bound_pattern, constructor_pattern, literal_pattern, wildcard_pattern, tuple_pattern, list_pattern, lazy_pattern, Patterns, no_patterns, more_patterns, Expression, variable_expression, constructor_expression, literal_expression, application, lambda, let_expression, if_expression, case_expression, tuple_expression, list_expression, typed_expression, Expressions, no_expressions, more_expressions, Declaration, data_declaration, newtype_declaration, synonym_declaration, signature, clause, pattern_binding, Declarations, no_declarations, more_declarations, RightSide, right_side, Bodies, no_bodies, plain_body, guarded_body, alternative, Alternatives, no_alternatives, more_alternatives}
use Rattle.hm_names.specs.Texts.{same_text}
use Rattle.hm_names.specs.Types.{declared_type}
use Rattle.hm_names.specs.Faults.Lists.{has_patterns}

-- a resolved variable: a bare one is local, a qualified one an entity
abbrev pub name_in : Option (List ℕ) → List ℕ → Name
name_in None x = local x
name_in (Some q) x = global (record { «module» = q; name = x })

abbrev pub name_of : Identifier → Name
name_of n = name_in n.qualifier n.text

-- the name of the module, and the declared scheme of each constructor by its resolved name
pub record Known : Type 0 where
  pub home : List ℕ
  pub scheme : Identifier → TypeScheme

abbrev pub constructor_type_of : Known → Identifier → Monotype
constructor_type_of k n = monotype_of (k.scheme n).body

abbrev pub literal_of : LiteralTree → typed.LiteralKind
literal_of (integer x) = typed.Integer
literal_of (character x) = typed.Character
literal_of (string x) = typed.Text

abbrev mutual
  pub pattern_of : Known → Pattern → typed.Pattern
  pattern_of k (variable_pattern n) = typed.VariablePattern (name_of n)
  pattern_of k (bound_pattern n p) = typed.AsPattern (name_of n) (pattern_of k p)
  pattern_of k (constructor_pattern n ps) = typed.ConstructorPattern (constructor_type_of k n) (patterns_of k ps)
  pattern_of k (literal_pattern l) = typed.LiteralPattern (literal_of l)
  pattern_of k wildcard_pattern = typed.WildcardPattern
  pattern_of k (tuple_pattern ps) = typed.TuplePattern (patterns_of k ps)
  pattern_of k (list_pattern ps) = typed.ListPattern (patterns_of k ps)
  pattern_of k (lazy_pattern p) = typed.LazyPattern (pattern_of k p)

  pub patterns_of : Known → Patterns → typed.Patterns
  patterns_of k no_patterns = typed.no_pattern
  patterns_of k (more_patterns p ps) = typed.pattern (pattern_of k p) (patterns_of k ps)

-- Signatures (Report 4.4.1)

abbrev pub is_signed_among : List ℕ → List Identifier → Bool
is_signed_among x [] = false
is_signed_among x (n ∷ ns) = same_text x n.text || is_signed_among x ns

-- the type that a list's signatures give to a variable
abbrev pub signature_of : List ℕ → Declarations → Option Monotype
signature_of x no_declarations = None
signature_of x (more_declarations (data_declaration n ps cs) ds) = signature_of x ds
signature_of x (more_declarations (newtype_declaration n ps c) ds) = signature_of x ds
signature_of x (more_declarations (synonym_declaration n ps t) ds) = signature_of x ds
signature_of x (more_declarations (signature ns t) ds) = cond (is_signed_among x ns) (Some (declared_type t)) (signature_of x ds)
signature_of x (more_declarations (clause n ps r) ds) = signature_of x ds
signature_of x (more_declarations (pattern_binding line column p r) ds) = signature_of x ds

-- Adjacent clauses of one variable with patterns are one binding (Report 4.4.3.1): after a clause of x with the patterns ps, the first of these
-- declarations continues its binding
abbrev pub is_continued : List ℕ → Patterns → Declarations → Bool
is_continued x ps no_declarations = false
is_continued x ps (more_declarations (data_declaration n qs cs) ds) = false
is_continued x ps (more_declarations (newtype_declaration n qs c) ds) = false
is_continued x ps (more_declarations (synonym_declaration n qs t) ds) = false
is_continued x ps (more_declarations (signature ns t) ds) = false
is_continued x ps (more_declarations (clause n qs r) ds) = same_text x n.text && (has_patterns ps && has_patterns qs)
is_continued x ps (more_declarations (pattern_binding line column p r) ds) = false

-- a binding, with its signature if it has one, before other bindings
abbrev pub bound_by : Name → Option Monotype → typed.Clauses → typed.Bindings → typed.Bindings
bound_by x None cs ds = typed.unsigned x cs ds
bound_by x (Some s) cs ds = typed.signed x s cs ds

-- adds a clause before those of the first binding
abbrev pub add_clause : (typed.Clauses → typed.Clauses) → typed.Bindings → typed.Bindings
add_clause c typed.no_binding = typed.no_binding
add_clause c (typed.unsigned x cs ds) = typed.unsigned x (c cs) ds
add_clause c (typed.signed x s cs ds) = typed.signed x s (c cs) ds
add_clause c (typed.matched x p cs ds) = typed.matched x p cs ds

abbrev pub declaration_count : Declarations → ℕ
declaration_count no_declarations = 0
declaration_count (more_declarations d ds) = suc (declaration_count ds)

-- Expressions, and binding lists

abbrev mutual
  pub expression_of : Known → Expression → typed.Expression
  expression_of k (variable_expression n) = typed.Variable (name_of n)
  expression_of k (constructor_expression n) = typed.Constructor (constructor_type_of k n)
  expression_of k (literal_expression l) = typed.Literal (literal_of l)
  expression_of k (application f e) = typed.Apply (expression_of k f) (expression_of k e)
  expression_of k (lambda ps e) = typed.Lambda (patterns_of k ps) (expression_of k e)
  expression_of k (let_expression ds e) = typed.Let (bindings_of k ds ds) (expression_of k e)
  expression_of k (if_expression a b c) = typed.If (expression_of k a) (expression_of k b) (expression_of k c)
  expression_of k (case_expression e bs) = typed.Case (expression_of k e) (alternatives_of k bs)
  expression_of k (tuple_expression es) = typed.Tuple (expressions_of k es)
  expression_of k (list_expression es) = typed.Listing (expressions_of k es)
  expression_of k (typed_expression e t) = typed.Typed (expression_of k e) (declared_type t)

  pub expressions_of : Known → Expressions → typed.Expressions
  expressions_of k no_expressions = typed.no_expression
  expressions_of k (more_expressions e es) = typed.expression (expression_of k e) (expressions_of k es)

  -- an alternative is a clause with one pattern
  pub alternatives_of : Known → Alternatives → typed.Clauses
  alternatives_of k no_alternatives = typed.no_clause
  alternatives_of k (more_alternatives (alternative p r) bs) = typed.clause (typed.pattern (pattern_of k p) typed.no_pattern) (right_sides_of k r) (where_of k r) (alternatives_of k bs)

  pub right_sides_of : Known → RightSide → typed.RightSides
  right_sides_of k (right_side gs ds) = bodies_of k gs

  pub where_of : Known → RightSide → typed.Bindings
  where_of k (right_side gs ds) = bindings_of k ds ds

  pub bodies_of : Known → Bodies → typed.RightSides
  bodies_of k no_bodies = typed.no_right_side
  bodies_of k (plain_body e gs) = typed.plain (expression_of k e) (bodies_of k gs)
  bodies_of k (guarded_body g e gs) = typed.guarded (expression_of k g) (expression_of k e) (bodies_of k gs)

  -- the bindings of a list, with the signatures of the whole list
  pub bindings_of : Known → Declarations → Declarations → typed.Bindings
  bindings_of k all no_declarations = typed.no_binding
  bindings_of k all (more_declarations d ds) = binding_of k all d ds (bindings_of k all ds)

  -- A declaration d before the declarations ds, whose bindings are `rest`. A pattern binding has the number of declarations after it, so the numbers
  -- in a list are distinct
  pub binding_of : Known → Declarations → Declaration → Declarations → typed.Bindings → typed.Bindings
  binding_of k all (data_declaration n ps cs) ds rest = rest
  binding_of k all (newtype_declaration n ps c) ds rest = rest
  binding_of k all (synonym_declaration n ps t) ds rest = rest
  binding_of k all (signature ns t) ds rest = rest
  binding_of k all (clause n ps r) ds rest =
      cond (is_continued n.text ps ds) (add_clause (λ cs. typed.clause (patterns_of k ps) (right_sides_of k r) (where_of k r) cs) rest)
      (bound_by (name_of n) (signature_of n.text all) (typed.clause (patterns_of k ps) (right_sides_of k r) (where_of k r) typed.no_clause) rest)
  binding_of k all (pattern_binding line column p r) ds rest =
      typed.matched (binding k.home (declaration_count ds)) (pattern_of k p) (typed.clause typed.no_pattern (right_sides_of k r) (where_of k r) typed.no_clause) rest
