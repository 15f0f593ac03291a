use Rattle.std.proofs.Common.{◌≡◌, ℕ, List, take}
use Rattle.hm_types.specs.Monotypes.{size, arguments_of}
use Rattle.hm_types.specs.Shape.{type_of, types_of}
use Rattle.hm_types.specs.Schemes.{variables_after, variables_after_all}
use Rattle.hm_types.specs.Numbers.{Numbers}
use Rattle.hm_types_subsumption.proofs.numbering.+collect.Given as goal

abbrev pub decreases-collect : goal.decreases-collect
decreases-collect l = size (type_of l.t.now)

abbrev pub invariant-loop-argument : goal.invariant-loop-argument
invariant-loop-argument l = record {
  whole : (xs : List ℕ) → variables_after xs (type_of l.t) ≡ variables_after_all xs (arguments_of (types_of l.argument-items));
  done : (xs : List ℕ) → Numbers l.initial.places xs → Numbers l.places (variables_after_all xs (arguments_of (take l.argument-index (types_of l.argument-items))));
}
