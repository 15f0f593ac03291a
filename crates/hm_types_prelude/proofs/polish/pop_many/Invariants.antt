use Rattle.std.proofs.Common.{◌≡◌, take, drop, reverse}
use Rattle.hm_types.specs.Shape.{types_of}
use Rattle.hm_types_prelude.proofs.polish.pop_many.Given as goal

abbrev pub invariant-loop : goal.invariant-loop
invariant-loop l = record {
  taken : types_of l.taken.items ≡ take l.counter (reverse (types_of l.initial.stack.items));
  left : reverse (types_of l.stack.items) ≡ drop l.counter (reverse (types_of l.initial.stack.items));
}
