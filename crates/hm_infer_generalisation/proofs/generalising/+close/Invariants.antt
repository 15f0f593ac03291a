use Rattle.std.proofs.Common.{◌≡◌, take, map}
use Rattle.hm_types.specs.Types.{Var as leaf, App as app, put}
use Rattle.hm_types.specs.Monotypes.{size, arguments_of}
use Rattle.hm_types.specs.Shape.{type_of, types_of}
use Rattle.hm_unify.specs.Levels.{is_outer}
use Rattle.hm_infer_generalisation.specs.Generalised.{closing}
use Rattle.hm_infer_generalisation.proofs.generalising.+close.Given as goal

abbrev pub decreases-close : goal.decreases-close
decreases-close l = size (type_of l.t.now)

abbrev pub invariant-loop-argument : goal.invariant-loop-argument
invariant-loop-argument l = record {
  whole : type_of l.t ≡ app l.head (arguments_of (types_of l.row));
  done : types_of l.made.items ≡ map (put (λ k. leaf (closing (is_outer l.quantified.solver.now.equations l.quantified.older) l.quantified.count l.quantified.slots.now.plain l.quantified.slots.now.rigid k))) (take l.argument-index (types_of l.row));
}
