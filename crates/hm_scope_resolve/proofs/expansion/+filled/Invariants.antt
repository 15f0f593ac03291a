use Rattle.std.proofs.Common.{◌≡◌, take, map}
use Rattle.hm_syntax.specs.Lists.{types}
use Rattle.hm_types.specs.Types.{App as app}
use Rattle.hm_types.specs.Monotypes.{size, arguments_of}
use Rattle.hm_types.specs.Shape.{type_of, types_of}
use Rattle.hm_names.specs.Expansion.{filled_at}
use Rattle.hm_scope_resolve.proofs.expansion.+filled.Given as goal

abbrev pub decreases-filled : goal.decreases-filled
decreases-filled l = size (type_of l.body.now)

abbrev pub invariant-parts : goal.invariant-parts
invariant-parts l = record {
  whole : type_of l.body ≡ app l.head (arguments_of (types_of l.part-items));
  done : l.resolved.items ≡ map (filled_at l.name (types l.args)) (take l.part-index (types_of l.part-items));
}
