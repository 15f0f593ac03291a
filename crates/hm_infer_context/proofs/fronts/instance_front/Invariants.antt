use Rattle.std.proofs.Common.{◌≤◌, false, length}
use Rattle.hm_types.specs.Monotypes.{size}
use Rattle.hm_types.specs.Shape.{type_of}
use Rattle.hm_types.specs.Types.{put}
use Rattle.hm_typing.specs.Programs.{monotype_of}
use Rattle.hm_unify.specs.WellFormed.{IsWellFormed}
use Rattle.hm_infer_context.specs.ConstructorParts.{AreGivenTypes, IsFrontFound}
use Rattle.hm_infer_context.specs.Environments.{opened}
use Rattle.hm_infer_context.proofs.fronts.instance_front.Given as goal

abbrev pub invariant-arguments : goal.invariant-arguments
invariant-arguments l = record {
  within : length l.arguments.items ≤ l.count;
  given : AreGivenTypes l.solver.given l.arguments.items;
  rest : IsWellFormed l.solver.given (put (opened false l.quantified l.base) (type_of l.rest));
  found : IsFrontFound (monotype_of l.scheme.body) (length l.arguments.items) l.fn.solver l.solver l.arguments.items (put (opened false l.quantified l.base) (type_of l.rest));
}

abbrev pub decreases-arguments : goal.decreases-arguments
decreases-arguments l = size (type_of l.rest)
