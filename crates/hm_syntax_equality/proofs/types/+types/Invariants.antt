use Rattle.std.proofs.Common.{◌≡◌, take, length}
use Rattle.hm_syntax.specs.Lists.{types}
use Rattle.hm_syntax.specs.Sizes.{type_size, types_size}
use Rattle.hm_syntax_equality.proofs.types.+types.Given as goal

abbrev pub decreases-is_same_type : goal.decreases-is_same_type
decreases-is_same_type l = type_size l.ty.now

abbrev pub decreases-are_same_types : goal.decreases-are_same_types
decreases-are_same_types l = types_size (types l.lefts.now)

abbrev pub invariant-are_same_types-row : goal.invariant-are_same_types-row
invariant-are_same_types-row l = record {
  as_many : length l.lefts ≡ length l.rights;
  same : take l.i l.lefts ≡ take l.i l.rights;
}
