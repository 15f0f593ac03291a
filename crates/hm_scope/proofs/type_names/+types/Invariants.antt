use Rattle.std.proofs.Common.{◌≡◌, ◌++◌, drop}
use Rattle.hm_syntax.specs.Lists.{types}
use Rattle.hm_syntax.specs.Sizes.{type_size, types_size}
use Rattle.hm_names.specs.Variables.{constructors_in_all}
use Rattle.hm_scope.proofs.type_names.+types.Given as goal

abbrev pub decreases-add_type : goal.decreases-add_type
decreases-add_type l = type_size l.ty.now

abbrev pub decreases-add_types : goal.decreases-add_types
decreases-add_types l = types_size (types l.row.now)

abbrev pub invariant-add_types-row : goal.invariant-add_types-row
invariant-add_types-row l = l.out ++ constructors_in_all (types (drop l.ty-index l.row)) ≡ l.fn.out ++ constructors_in_all (types l.row)
