-- A binding that a signature without one may be meant for (Report, sections 4.4.1 and 4.4.3).
use Rattle.std.specs.Prelude.{◌≡◌, ℕ, List, None, Contains}
use Rattle.hm_syntax.specs.Names.{Identifier}
use Rattle.hm_syntax.specs.Trees.{Declarations}
use Rattle.hm_syntax.specs.declared.ast.Module.{Module}
use Rattle.hm_names.specs.Faults.Lists.{binding_names, signed_names}
use Rattle.hm_names.specs.Walk.{Node, Somewhere, at_expression, at_pattern, at_type, at_head, at_parameters, at_list}
use Rattle.hm_names.specs.declared.faults.Fault.{Fault}
use Rattle.hm_messages_details.specs.Firsts.{IsAt}
use Rattle.hm_messages_details.specs.Nearness.{AreNear}

-- the fault is at a signature of this list, in which x is bound and near to the name of the fault
pub record IsNearBinding (ds : Declarations) (f : Fault) (x : List ℕ) : Type 0 where
  pub signed : Identifier
  pub among : Contains (signed_names ds) signed
  pub at_signed : IsAt f signed
  pub bound : Identifier
  pub binds : Contains (binding_names None ds) bound
  pub text_is : bound.text ≡ x
  pub near : AreNear f.name x

abbrev pub IsNearBindingAt : Node → Fault → List ℕ → Type 0
IsNearBindingAt (at_list ds) f x = IsNearBinding ds f x
IsNearBindingAt (at_expression e) f x = ⊥
IsNearBindingAt (at_pattern p) f x = ⊥
IsNearBindingAt (at_type t) f x = ⊥
IsNearBindingAt (at_head ps) f x = ⊥
IsNearBindingAt (at_parameters ps vs) f x = ⊥

-- it is so somewhere in the module
abbrev pub HasNearBinding : Module → Fault → List ℕ → Type 0
HasNearBinding m f x = Somewhere m (λ xs k. IsNearBindingAt k f x)
