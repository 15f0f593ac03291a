-- Free occurrences of a name (Report 3 and 4.5.1: references, with the scopes of patterns, let and where).
use Rattle.std.specs.Prelude.{◌≡◌, ◌⊎◌}
use Rattle.hm_typing.specs.Names.{Identifier, IsOneOf}
use Rattle.hm_typing.specs.Syntax.{Expression, Variable, Constructor, Literal, Apply, Lambda, Let, If, Case, Tuple, Listing, Typed, Expressions, no_expression, expression, Clauses, no_clause, clause, RightSides, no_right_side, plain, guarded, Bindings, no_binding, unsigned, signed, matched, patterns_names, names}

abbrev mutual
  pub Mentions : Identifier → Expression → Type 0
  Mentions y (Variable x) = y ≡ x
  Mentions y (Constructor s) = ⊥
  Mentions y (Literal l) = ⊥
  Mentions y (Apply f e) = Mentions y f ⊎ Mentions y e
  Mentions y (Lambda ps e) = ¬ (IsOneOf y (patterns_names ps)) × Mentions y e
  Mentions y (Let ds e) = ¬ (IsOneOf y (names ds)) × (BindingsMention y ds ⊎ Mentions y e)
  Mentions y (If a b c) = Mentions y a ⊎ (Mentions y b ⊎ Mentions y c)
  Mentions y (Case e cs) = Mentions y e ⊎ ClausesMention y cs
  Mentions y (Tuple es) = ExpressionsMention y es
  Mentions y (Listing es) = ExpressionsMention y es
  Mentions y (Typed e s) = Mentions y e

  pub ExpressionsMention : Identifier → Expressions → Type 0
  ExpressionsMention y no_expression = ⊥
  ExpressionsMention y (expression e es) = Mentions y e ⊎ ExpressionsMention y es

  pub ClausesMention : Identifier → Clauses → Type 0
  ClausesMention y no_clause = ⊥
  ClausesMention y (clause ps gs ds cs) = (¬ (IsOneOf y (patterns_names ps)) × (¬ (IsOneOf y (names ds)) × (RightSidesMention y gs ⊎ BindingsMention y ds))) ⊎ ClausesMention y cs

  pub RightSidesMention : Identifier → RightSides → Type 0
  RightSidesMention y no_right_side = ⊥
  RightSidesMention y (plain e gs) = Mentions y e ⊎ RightSidesMention y gs
  RightSidesMention y (guarded g e gs) = Mentions y g ⊎ (Mentions y e ⊎ RightSidesMention y gs)

  pub BindingsMention : Identifier → Bindings → Type 0
  BindingsMention y no_binding = ⊥
  BindingsMention y (unsigned x cs ds) = ClausesMention y cs ⊎ BindingsMention y ds
  BindingsMention y (signed x s cs ds) = ClausesMention y cs ⊎ BindingsMention y ds
  BindingsMention y (matched k p cs ds) = ClausesMention y cs ⊎ BindingsMention y ds
