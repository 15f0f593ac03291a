use Rattle.std.proofs.Common.{◌≡◌, ◌++◌, drop, map}
use Rattle.hm_syntax.specs.Lists.{types}
use Rattle.hm_syntax.specs.Sizes.{type_size, types_size}
use Rattle.hm_messages_details.specs.Parts.{part_of, types_parts}
use Rattle.hm_messages_details.proofs.parts.+types.Given as goal

abbrev pub decreases-add_type : goal.decreases-add_type
decreases-add_type l = type_size l.ty.now

abbrev pub decreases-add_types : goal.decreases-add_types
decreases-add_types l = types_size (types l.row.now)

abbrev pub invariant-add_types-row : goal.invariant-add_types-row
invariant-add_types-row l = map part_of l.out.items ++ types_parts (types (drop l.ty-index l.row)) ≡ map part_of l.fn.out.items ++ types_parts (types l.row)
