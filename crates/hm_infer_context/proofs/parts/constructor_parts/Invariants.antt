use Rattle.std.proofs.Common.{◌≡◌, ◌≤◌, length}
use Rattle.hm_types.specs.Shape.{type_of}
use Rattle.hm_typing.specs.Programs.{monotype_of}
use Rattle.hm_unify.specs.WellFormed.{IsWellFormed}
use Rattle.hm_infer_context.specs.ConstructorParts.{AreGivenTypes, IsFrontFound}
use Rattle.hm_infer_context.proofs.parts.constructor_parts.Given as goal

abbrev pub invariant-arguments : goal.invariant-arguments
invariant-arguments l = record {
  len : length l.arguments.items ≡ l.counter;
  within : l.counter ≤ l.count;
  grows : l.fn.solver.given ≤ l.solver.given;
  rest : IsWellFormed l.solver.given (type_of l.rest);
  given : AreGivenTypes l.solver.given l.arguments.items;
  found : IsFrontFound (monotype_of l.scheme.body) l.counter l.fn.solver l.solver l.arguments.items (type_of l.rest);
}
