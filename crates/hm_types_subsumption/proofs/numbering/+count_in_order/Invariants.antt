use Rattle.std.proofs.Common.{◌≡◌, ℕ, List, take}
use Rattle.hm_types.specs.Monotypes.{size, arguments_of}
use Rattle.hm_types.specs.Shape.{type_of, types_of}
use Rattle.hm_types.specs.Schemes.{count_up, variables_after, variables_after_all}
use Rattle.hm_types_subsumption.proofs.numbering.+count_in_order.Given as goal

abbrev pub decreases-count_in_order : goal.decreases-count_in_order
decreases-count_in_order l = size (type_of l.t.now)

abbrev pub invariant-loop-argument : goal.invariant-loop-argument
invariant-loop-argument l = record {
  whole : (xs : List ℕ) → variables_after xs (type_of l.t) ≡ variables_after_all xs (arguments_of (types_of l.argument-items));
  done : variables_after_all (count_up 0 l.initial.next) (arguments_of (take l.argument-index (types_of l.argument-items))) ≡ count_up 0 l.count;
}
