-- A near name among the local variables at the place of a fault (Report, sections 3.3, 3.12, 3.13 and 4.4.3: the scopes of patterns, let and where).
use Rattle.std.specs.Prelude.{◌≡◌, ℕ, List, None, Contains}
use Rattle.hm_syntax.specs.Trees.{variable_expression}
use Rattle.hm_syntax.specs.Names.{Identifier}
use Rattle.hm_syntax.specs.declared.ast.Module.{Module}
use Rattle.hm_names.specs.Walk.{Locals, Node, Somewhere, at_expression}
use Rattle.hm_names.specs.declared.faults.Fault.{Fault}
use Rattle.hm_messages_details.specs.Firsts.{IsAt}
use Rattle.hm_messages_details.specs.Nearness.{AreNear}

-- the fault is at a variable without a qualifier, and x is a local variable there and near to the name of the fault
pub data IsNearLocal (f : Fault) (x : List ℕ) (xs : Locals) : Node → Type 0 where
  is_near_local : {n : Identifier} → IsAt f n → n.qualifier ≡ None → Contains xs x → AreNear f.name x → IsNearLocal f x xs (at_expression (variable_expression n))

-- it is so somewhere in the module
abbrev pub HasNearLocal : Module → Fault → List ℕ → Type 0
HasNearLocal m f x = Somewhere m (λ xs k. IsNearLocal f x xs k)
