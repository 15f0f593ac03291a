-- Worked examples of numbers of arguments.
use Rattle.std.specs.Prelude.{◌≡◌, ℕ, List, [], ◌∷◌, Contains, None, codes}
use Rattle.hm_syntax.specs.Names.{Identifier}
use Rattle.hm_syntax.specs.Trees.{Expression, application, variable_expression, constructor_expression}
use Rattle.hm_messages_arguments.specs.Applied.{Applied, applied_to}

abbrev pub at : ℕ → List ℕ → Identifier
at column x = record { qualifier = None; text = x; line = 1; column = column }

abbrev pub named : ℕ → List ℕ → ℕ → Applied
named column x n = record { name = at column x; arguments = n }

-- f (not True) x
abbrev pub applied : Expression
applied = application (application (variable_expression (at 1 (codes "f"))) (application (variable_expression (at 4 (codes "not"))) (constructor_expression (at 8 (codes "True")))))
    (variable_expression (at 14 (codes "x")))

-- f has two arguments, not has one, and True and x have none. f isn't a name with one argument
pub record AppliedRow : Type 0 where
  pub all : applied_to 0 applied ≡ named 1 (codes "f") 2 ∷ named 4 (codes "not") 1 ∷ named 8 (codes "True") 0 ∷ named 14 (codes "x") 0 ∷ []
  pub one : Contains (applied_to 0 applied) (named 1 (codes "f") 1) → ⊥
