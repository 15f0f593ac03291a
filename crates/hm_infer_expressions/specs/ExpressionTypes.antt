-- The types of an expression under the assumptions of the program.
use Rattle.std.specs.Prelude.{ℕ, List}
use Rattle.hm_syntax.specs.Trees.{Expression}
use Rattle.hm_typing.specs.Schemes.{Monotype}
use Rattle.hm_typing.specs.Assumptions.{assumptions_put}
use Rattle.hm_typing.specs.SecondForm.{Derives}
use Rattle.hm_names.specs.Syntax.{Known, expression_of}
use Rattle.hm_infer_context.specs.Environments.{Assumed, assumptions}

-- the expression has the type t, with the substitution r in the assumptions
abbrev pub HasType : Known → Expression → List Assumed → (ℕ → Monotype) → Monotype → Type 0
HasType known e es r t = Derives (assumptions_put r (assumptions es)) (expression_of known e) t
