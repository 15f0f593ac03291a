use Rattle.std.proofs.Common.{◌≡◌, ◌++◌, drop}
use Rattle.hm_syntax.specs.Lists.{types}
use Rattle.hm_syntax.specs.Sizes.{type_size, types_size}
use Rattle.hm_scope_resolve.proofs.expansion.+copies.Given as goal

abbrev pub decreases-copy_type : goal.decreases-copy_type
decreases-copy_type l = type_size l.ty.now

abbrev pub decreases-copy_types : goal.decreases-copy_types
decreases-copy_types l = types_size (types l.row.now)

abbrev pub invariant-copy_types-row : goal.invariant-copy_types-row
invariant-copy_types-row l = l.copies.items ++ drop l.ty-index l.row ≡ l.row
