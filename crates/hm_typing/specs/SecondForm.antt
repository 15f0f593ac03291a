-- A second form of the typing, for the proofs: it guesses schemes, and types a binding at each instance of its scheme.
-- The law typing_is_stable says that it agrees with the typing of specs/Typing, so a reader needn't believe it.
use Rattle.std.specs.Prelude.{◌≡◌, ℕ, suc, List, Bool, cond}
use Rattle.hm_types.specs.Types.{put}
use Rattle.hm_typing.specs.Names.{Identifier}
use Rattle.hm_typing.specs.Schemes.{Monotype, Scheme, arrow, instance, monomorphic, closed}
use Rattle.hm_typing.specs.Assumptions.{Assumptions, bind_all, Has}
use Rattle.hm_typing.specs.Syntax.{Expression, Variable, Constructor, Literal, Apply, Lambda, Let, If, Case, Tuple, Listing, Typed, Expressions, no_expression, expression, Clauses, no_clause, clause, RightSides, no_right_side, plain, guarded, Bindings, no_binding, unsigned, signed, matched, bool, literal_type, names, expression_count}
use Rattle.hm_typing.specs.Units.{AreUnits}
use Rattle.hm_typing.specs.Patterns.{Instantiates, tuple, list, Matches}
use Rattle.hm_typing.specs.Typing.{HasFunction, HasLocal}

-- the assumption about y for the binding of x, at an instance
abbrev pub seen_at : (Identifier → Identifier → Bool) → (Identifier → Scheme) → (ℕ → Monotype) → Identifier → Identifier → Scheme
seen_at own B us x y = cond (own x y) (monomorphic (instance (B y) us)) (B y)

pub record DerivedUnits (ds : Bindings) (Each : (Identifier → Identifier → Bool) → Type 0) : Type 0 where
  pub own : Identifier → Identifier → Bool
  pub units : AreUnits ds own
  pub bindings : Each own

abbrev mutual
  pub Derives : Assumptions → Expression → Monotype → Type 0
  Derives A (Variable x) t = Has A x t
  Derives A (Constructor s) t = Instantiates s t
  Derives A (Literal l) t = t ≡ literal_type l
  Derives A (Apply f e) u = (t : Monotype) × (Derives A f (arrow t u) × Derives A e t)
  Derives A (Lambda ps e) v = HasFunction A ps v (λ C u. Derives C e u)
  Derives A (Let ds e) t = HasLocal A ds (λ B. DerivedUnits ds (λ own. DeriveBindings A own (names ds) B ds)) (λ C. Derives C e t)
  Derives A (If a b c) t = Derives A a bool × (Derives A b t × Derives A c t)
  Derives A (Case e cs) u = (t : Monotype) × (Derives A e t × DeriveClauses A cs (arrow t u))
  Derives A (Tuple es) t = (ts : ℕ → Monotype) × ((t ≡ tuple (expression_count es) ts) × DeriveAll A es ts 0)
  Derives A (Listing es) t = (u : Monotype) × ((t ≡ list u) × DeriveAll A es (λ j. u) 0)
  Derives A (Typed e s) t = ((us : ℕ → Monotype) → Derives A e (put us s)) × Instantiates s t

  pub DeriveAll : Assumptions → Expressions → (ℕ → Monotype) → ℕ → Type 0
  DeriveAll A no_expression ts i = Unit {0}
  DeriveAll A (expression e es) ts i = Derives A e (ts i) × DeriveAll A es ts (suc i)

  pub DeriveClauses : Assumptions → Clauses → Monotype → Type 0
  DeriveClauses A no_clause v = Unit {0}
  DeriveClauses A (clause ps gs ds cs) v = HasFunction A ps v (λ C u. HasLocal C ds (λ B. DerivedUnits ds (λ own. DeriveBindings C own (names ds) B ds)) (λ D. DeriveRightSides D gs u)) × DeriveClauses A cs v

  pub DeriveRightSides : Assumptions → RightSides → Monotype → Type 0
  DeriveRightSides A no_right_side u = Unit {0}
  DeriveRightSides A (plain e gs) u = Derives A e u × DeriveRightSides A gs u
  DeriveRightSides A (guarded g e gs) u = Derives A g bool × (Derives A e u × DeriveRightSides A gs u)

  -- each binding at each instance
  pub DeriveBindings : Assumptions → (Identifier → Identifier → Bool) → List Identifier → (Identifier → Scheme) → Bindings → Type 0
  DeriveBindings A own xs B no_binding = Unit {0}
  DeriveBindings A own xs B (unsigned x cs ds) = ((us : ℕ → Monotype) → DeriveClauses (bind_all xs (seen_at own B us x) A) cs (instance (B x) us)) × DeriveBindings A own xs B ds
  DeriveBindings A own xs B (signed x s cs ds) = ((B x ≡ closed s) × ((us : ℕ → Monotype) → DeriveClauses (bind_all xs (seen_at own B us x) A) cs (instance (B x) us))) × DeriveBindings A own xs B ds
  DeriveBindings A own xs B (matched k p cs ds) = ((us : ℕ → Monotype) → Matches (λ x. instance (B x) us) p (instance (B k) us) × DeriveClauses (bind_all xs (seen_at own B us k) A) cs (instance (B k) us)) × DeriveBindings A own xs B ds

abbrev pub DerivedSchemes : Assumptions → Bindings → (Identifier → Scheme) → Type 0
DerivedSchemes A ds B = DerivedUnits ds (λ own. DeriveBindings A own (names ds) B ds)
