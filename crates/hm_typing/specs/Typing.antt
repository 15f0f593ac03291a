-- The typing relation (Damas and Milner 1982, section 5, for the expressions of Report 3 and the bindings of Report 4.4 and 4.5).
-- It guesses all types.
-- Why: docs/DECISIONS.md, "Guessed types".
use Rattle.std.specs.Prelude.{◌≡◌, ℕ, suc, Bool}
use Rattle.hm_types.specs.Types.{Var, In, put}
use Rattle.hm_typing.specs.Names.{Identifier, IsOneOf}
use Rattle.hm_typing.specs.Schemes.{Monotype, Scheme, arrow, monomorphic, closed}
use Rattle.hm_typing.specs.Assumptions.{Assumptions, bind_all, Has, FreeIn}
use Rattle.hm_typing.specs.Generalisation.{quantify}
use Rattle.hm_typing.specs.Syntax.{Pattern, Patterns, Expression, Variable, Constructor, Literal, Apply, Lambda, Let, If, Case, Tuple, Listing, Typed, Expressions, no_expression, expression, Clauses, no_clause, clause, RightSides, no_right_side, plain, guarded, Bindings, no_binding, unsigned, signed, matched, bool, literal_type, patterns_names, matched_names, names, pattern_count, expression_count}
use Rattle.hm_typing.specs.Units.{AreUnits, seen}
use Rattle.hm_typing.specs.Patterns.{Instantiates, tuple, list, arrows, Matches, MatchesAll}

-- Declared types (Report 3.16, 4.4.1)

-- ys maps the variables of s to distinct ones that aren't free in A
pub record AreNew (A : Assumptions) (s : Monotype) (ys : ℕ → ℕ) : Type 0 where
  pub distinct : (i j : ℕ) → In i s → In j s → ys i ≡ ys j → i ≡ j
  pub new : (i : ℕ) → In i s → ¬ (FreeIn (ys i) A)

-- `Asked` holds for s with such variables
pub record AtDeclared (A : Assumptions) (s : Monotype) (Asked : Monotype → Type 0) : Type 0 where
  pub variables : ℕ → ℕ
  pub are_new : AreNew A s variables
  pub typed : Asked (put (λ i. Var (variables i)) s)

-- Scopes

-- patterns before a body have the function type v: the body has the result type, and each variable of the patterns has one type
pub record HasFunction (A : Assumptions) (ps : Patterns) (v : Monotype) (Body : Assumptions → Monotype → Type 0) : Type 0 where
  pub variables : Identifier → Monotype
  pub parameters : ℕ → Monotype
  pub result : Monotype
  pub function : v ≡ arrows (pattern_count ps) parameters 0 result
  pub matched : MatchesAll variables ps parameters 0
  pub body : Body (bind_all (patterns_names ps) (λ x. monomorphic (variables x)) A) result

-- some schemes type the list, and the body is typed if its names have these
pub record HasLocal (A : Assumptions) (ds : Bindings) (Listed : (Identifier → Scheme) → Type 0) (Body : Assumptions → Type 0) : Type 0 where
  pub schemes : Identifier → Scheme
  pub listed : Listed schemes
  pub body : Body (bind_all (names ds) schemes A)

-- a pattern binding k: its pattern and its right sides have one type, that of k. The variables get their types from the pattern, and B quantifies
-- each alone
pub record HasPatternBinding (A : Assumptions) (ts : Identifier → Monotype) (B : Identifier → Scheme) (k : Identifier) (p : Pattern) (Right : Monotype → Type 0) : Type 0 where
  pub fits : Matches ts p (ts k)
  pub right_sides : Right (ts k)
  pub quantified : (x : Identifier) → IsOneOf x (matched_names k p) → B x ≡ quantify A (ts x)

-- the schemes B type the list: each name has a type in its own unit, and the binding of x is typed under the assumptions that it sees. This needs no
-- order of units
pub record InUnits (A : Assumptions) (ds : Bindings) (B : Identifier → Scheme) (Each : (Identifier → Assumptions) → (Identifier → Monotype) → Type 0) : Type 0 where
  pub own : Identifier → Identifier → Bool
  pub units : AreUnits ds own
  pub types : Identifier → Monotype
  pub bindings : Each (λ x. bind_all (names ds) (seen own types B x) A) types

-- The relation

abbrev mutual
  -- under A the expression has the type
  pub HasType : Assumptions → Expression → Monotype → Type 0
  HasType A (Variable x) t = Has A x t
  HasType A (Constructor s) t = Instantiates s t
  HasType A (Literal l) t = t ≡ literal_type l
  HasType A (Apply f e) u = (t : Monotype) × (HasType A f (arrow t u) × HasType A e t)
  HasType A (Lambda ps e) v = HasFunction A ps v (λ C u. HasType C e u)
  HasType A (Let ds e) t = HasLocal A ds (λ B. InUnits A ds B (λ sees ts. HasBindings A sees ts B ds)) (λ C. HasType C e t)
  HasType A (If a b c) t = HasType A a bool × (HasType A b t × HasType A c t)
  HasType A (Case e cs) u = (t : Monotype) × (HasType A e t × HasClauses A cs (arrow t u))
  HasType A (Tuple es) t = (ts : ℕ → Monotype) × ((t ≡ tuple (expression_count es) ts) × HasTypes A es ts 0)
  HasType A (Listing es) t = (u : Monotype) × ((t ≡ list u) × HasTypes A es (λ j. u) 0)
  HasType A (Typed e s) t = AtDeclared A s (λ u. HasType A e u) × Instantiates s t

  -- the expressions have the types ts i, ts (i + 1), ..
  pub HasTypes : Assumptions → Expressions → (ℕ → Monotype) → ℕ → Type 0
  HasTypes A no_expression ts i = Unit {0}
  HasTypes A (expression e es) ts i = HasType A e (ts i) × HasTypes A es ts (suc i)

  -- each clause has the function type v
  pub HasClauses : Assumptions → Clauses → Monotype → Type 0
  HasClauses A no_clause v = Unit {0}
  HasClauses A (clause ps gs ds cs) v =
      HasFunction A ps v (λ C u.
      HasLocal C ds (λ B. InUnits C ds B (λ sees ts. HasBindings C sees ts B ds)) (λ D. HasRightSides D gs u))
      × HasClauses A cs v

  -- each right side has the type u, and each guard has the type Bool
  pub HasRightSides : Assumptions → RightSides → Monotype → Type 0
  HasRightSides A no_right_side u = Unit {0}
  HasRightSides A (plain e gs) u = HasType A e u × HasRightSides A gs u
  HasRightSides A (guarded g e gs) u = HasType A g bool × (HasType A e u × HasRightSides A gs u)

  -- a binding without a signature has its name's type, which B quantifies. A signed one has its declared type, and B has its declared scheme
  pub HasBindings : Assumptions → (Identifier → Assumptions) → (Identifier → Monotype) → (Identifier → Scheme) → Bindings → Type 0
  HasBindings A sees ts B no_binding = Unit {0}
  HasBindings A sees ts B (unsigned x cs ds) = ((B x ≡ quantify A (ts x)) × HasClauses (sees x) cs (ts x)) × HasBindings A sees ts B ds
  HasBindings A sees ts B (signed x s cs ds) = ((B x ≡ closed s) × AtDeclared A s (λ u. HasClauses (sees x) cs u)) × HasBindings A sees ts B ds
  HasBindings A sees ts B (matched k p cs ds) = HasPatternBinding A ts B k p (λ t. HasClauses (sees k) cs t) × HasBindings A sees ts B ds
