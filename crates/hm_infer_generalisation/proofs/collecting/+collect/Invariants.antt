use Rattle.std.proofs.Common.{◌≡◌, take}
use Rattle.hm_types.specs.Types.{InArgs, App as app}
use Rattle.hm_types.specs.Monotypes.{size, arguments_of}
use Rattle.hm_types.specs.Shape.{type_of, types_of}
use Rattle.hm_types.specs.declared.Head.{Head}
use Rattle.hm_infer_generalisation.specs.Collected.{Gathers}
use Rattle.hm_infer_generalisation.proofs.collecting.+collect.Given as goal

abbrev pub decreases-collect : goal.decreases-collect
decreases-collect l = size (type_of l.t.now)

abbrev pub invariant-loop-argument : goal.invariant-loop-argument
invariant-loop-argument l = record {
  whole : (h : Head) × (type_of l.t ≡ app h (arguments_of (types_of l.argument-items)));
  done : Gathers (λ k. InArgs k (arguments_of (take l.argument-index (types_of l.argument-items)))) l.initial.seen l.seen;
}
