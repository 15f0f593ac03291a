use Rattle.std.proofs.Common.{◌≡◌, ◌++◌, drop, map}
use Rattle.hm_syntax.specs.Lists.{types}
use Rattle.hm_syntax.specs.Sizes.{type_size, types_size}
use Rattle.hm_types.specs.Shape.{types_of}
use Rattle.hm_names.specs.Types.{type_in, program_of}
use Rattle.hm_names.proofs.monotypes.+types.Given as goal

abbrev pub decreases-monotype : goal.decreases-monotype
decreases-monotype l = type_size l.ty.now

abbrev pub decreases-monotypes : goal.decreases-monotypes
decreases-monotypes l = types_size (types l.row.now)

abbrev pub invariant-monotypes-row : goal.invariant-monotypes-row
invariant-monotypes-row l = types_of l.types.items ++ map (λ t. program_of (type_in l.variables t)) (drop l.ty-index l.row) ≡ map (λ t. program_of (type_in l.variables t)) l.row
