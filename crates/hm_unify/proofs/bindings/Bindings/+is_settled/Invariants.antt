use Rattle.std.proofs.Common.{◌≡◌, take, map}
use Rattle.hm_types.specs.declared.Head.{Head}
use Rattle.hm_types.specs.Types.{App as app}
use Rattle.hm_types.specs.Monotypes.{size, arguments_of}
use Rattle.hm_types.specs.Shape.{type_of, types_of}
use Rattle.hm_types.specs.Substitution.{substitute}
use Rattle.hm_unify.specs.Bindings.{solution}
use Rattle.hm_unify.specs.Steps.{equations_in}
use Rattle.hm_unify.proofs.bindings.Bindings.+is_settled.Given as goal

abbrev pub decreases-is_settled : goal.decreases-is_settled
decreases-is_settled l = size (type_of l.t.now)

abbrev pub invariant-loop-argument : goal.invariant-loop-argument
invariant-loop-argument l = record {
  whole : (h : Head) × (type_of l.t ≡ app h (arguments_of (types_of l.argument-items)));
  done : types_of (take l.argument-index l.argument-items) ≡ map (substitute (solution (equations_in l.self))) (take l.argument-index (types_of l.argument-items));
}
