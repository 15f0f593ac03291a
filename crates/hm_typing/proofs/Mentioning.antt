-- Whether a name is mentioned is decided.
use Rattle.hm_typing.specs.Names.{Identifier}
use Rattle.hm_typing.specs.Decisions.{either}
use Rattle.hm_typing.specs.Syntax.{Expression, Variable, Constructor, Literal, Apply, Lambda, Let, If, Case, Tuple, Listing, Typed, Expressions, no_expression, expression, Clauses, no_clause, clause, RightSides, no_right_side, plain, guarded, Bindings, no_binding, unsigned, signed, matched, patterns_names, matched_names, names}
use Rattle.hm_typing.specs.Mentions.{Mentions, ExpressionsMention, ClausesMention, RightSidesMention, BindingsMention}
use Rattle.hm_typing.specs.Units.{BindingMentions, IsUnsigned}
use Rattle.hm_typing.proofs.Names.{name_discrete}
use Rattle.hm_typing.proofs.Bind.{is_one_of}

pub also : {P Q : Type 0} → Dec P → Dec Q → Dec (P × Q)
also (yes p) (yes q) = yes (p, q)
also (yes p) (no n) = no (λ h. n h.1)
also (no n) d = no (λ h. n h.0)

pub denied : {P : Type 0} → Dec P → Dec (¬ P)
denied (yes p) = no (λ n. n p)
denied (no n) = yes n

mutual
  pub mentions : (y : Identifier) (e : Expression) → Dec (Mentions y e)
  mentions y (Variable x) = name_discrete y x
  mentions y (Constructor s) = no (λ h. h)
  mentions y (Literal l) = no (λ h. h)
  mentions y (Apply f e) = either (mentions y f) (mentions y e)
  mentions y (Lambda ps e) = also (denied (is_one_of y (patterns_names ps))) (mentions y e)
  mentions y (Let ds e) = also (denied (is_one_of y (names ds))) (either (bindings_mention y ds) (mentions y e))
  mentions y (If a b c) = either (mentions y a) (either (mentions y b) (mentions y c))
  mentions y (Case e cs) = either (mentions y e) (clauses_mention y cs)
  mentions y (Tuple es) = expressions_mention y es
  mentions y (Listing es) = expressions_mention y es
  mentions y (Typed e s) = mentions y e

  pub expressions_mention : (y : Identifier) (es : Expressions) → Dec (ExpressionsMention y es)
  expressions_mention y no_expression = no (λ h. h)
  expressions_mention y (expression e es) = either (mentions y e) (expressions_mention y es)

  pub clauses_mention : (y : Identifier) (cs : Clauses) → Dec (ClausesMention y cs)
  clauses_mention y no_clause = no (λ h. h)
  clauses_mention y (clause ps gs ds cs) = either (also (denied (is_one_of y (patterns_names ps))) (also (denied (is_one_of y (names ds))) (either (right_sides_mention y gs) (bindings_mention y ds)))) (clauses_mention y cs)

  pub right_sides_mention : (y : Identifier) (gs : RightSides) → Dec (RightSidesMention y gs)
  right_sides_mention y no_right_side = no (λ h. h)
  right_sides_mention y (plain e gs) = either (mentions y e) (right_sides_mention y gs)
  right_sides_mention y (guarded g e gs) = either (mentions y g) (either (mentions y e) (right_sides_mention y gs))

  pub bindings_mention : (y : Identifier) (ds : Bindings) → Dec (BindingsMention y ds)
  bindings_mention y no_binding = no (λ h. h)
  bindings_mention y (unsigned x cs ds) = either (clauses_mention y cs) (bindings_mention y ds)
  bindings_mention y (signed x s cs ds) = either (clauses_mention y cs) (bindings_mention y ds)
  bindings_mention y (matched k p cs ds) = either (clauses_mention y cs) (bindings_mention y ds)

pub binding_mentions : (x y : Identifier) (ds : Bindings) → Dec (BindingMentions x y ds)
binding_mentions x y no_binding = no (λ h. h)
binding_mentions x y (unsigned z cs ds) = either (also (name_discrete x z) (clauses_mention y cs)) (binding_mentions x y ds)
binding_mentions x y (signed z s cs ds) = either (also (name_discrete x z) (clauses_mention y cs)) (binding_mentions x y ds)
binding_mentions x y (matched k p cs ds) = either (also (is_one_of x (matched_names k p)) (either (is_one_of y (matched_names k p)) (clauses_mention y cs))) (binding_mentions x y ds)

pub is_unsigned : (x : Identifier) (ds : Bindings) → Dec (IsUnsigned x ds)
is_unsigned x no_binding = no (λ h. h)
is_unsigned x (unsigned z cs ds) = either (name_discrete x z) (is_unsigned x ds)
is_unsigned x (signed z s cs ds) = is_unsigned x ds
is_unsigned x (matched k p cs ds) = either (is_one_of x (matched_names k p)) (is_unsigned x ds)
