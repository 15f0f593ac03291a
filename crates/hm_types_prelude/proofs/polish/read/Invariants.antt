use Rattle.std.proofs.Common.{◌≡◌, reverse, []}
use Rattle.hm_types.specs.Shape.{types_of}
use Rattle.hm_types_prelude.specs.Polish.{written}
use Rattle.hm_types_prelude.proofs.polish.read.Given as goal

abbrev pub invariant-loop-part : goal.invariant-loop-part
invariant-loop-part l = written l.part-iterator.iter.rest.now (reverse (types_of l.stack.items)) ≡ written l.parts []
