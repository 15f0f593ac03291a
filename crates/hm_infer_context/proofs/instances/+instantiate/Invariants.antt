use Rattle.std.proofs.Common.{◌≡◌, take, map}
use Rattle.hm_types.specs.Types.{App as app, put}
use Rattle.hm_types.specs.Monotypes.{size, arguments_of}
use Rattle.hm_types.specs.Shape.{type_of, types_of}
use Rattle.hm_infer_context.specs.Environments.{opened}
use Rattle.hm_infer_context.specs.VariableKinds.{is_rigid}
use Rattle.hm_infer_context.proofs.instances.+instantiate.Given as goal

abbrev pub decreases-instantiate : goal.decreases-instantiate
decreases-instantiate l = size (type_of l.body.now)

abbrev pub invariant-loop-argument : goal.invariant-loop-argument
invariant-loop-argument l = record {
  whole : type_of l.body ≡ app l.head (arguments_of (types_of l.row));
  done : types_of l.made.items ≡ map (put (opened (is_rigid l.kind) l.quantified l.base)) (take l.argument-index (types_of l.row));
}
