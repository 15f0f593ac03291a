-- Worked examples of types that can be the same type, and of types that can't.
use Rattle.hm_types.specs.Monotypes.{Mono, var}
use Rattle.hm_types.specs.Types.{App as app, Var as leaf, done as none, more}
use Rattle.hm_types.specs.declared.Head.TheVariants.{Arrow}
use Rattle.hm_types.specs.declared.Head.TheVariants as head
use Rattle.hm_messages_types.specs.CommonInstances.{HaveCommonInstance}
use Rattle.hm_messages_types.specs.WorkedShown.{pair, unit}

abbrev pub a : Mono
a = leaf (var 0)

abbrev pub function : Mono → Mono → Mono
function t u = app Arrow (more t (more u none))

-- a function from a to () can be one from a pair. It can't be a pair, and a can't be a list of a
pub record InstancesRow : Type 0 where
  pub agree : HaveCommonInstance (function a unit) (function pair unit)
  pub apart : ¬ (HaveCommonInstance (function a unit) pair)
  pub infinite : ¬ (HaveCommonInstance a (app head.List (more a none)))
