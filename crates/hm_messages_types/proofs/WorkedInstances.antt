-- The worked examples of types that can be the same type.
use Rattle.std.proofs.Common.{refl}
use Rattle.hm_types.specs.Types.{App as app, done as none, more}
use Rattle.hm_types.specs.declared.Head.TheVariants as head
use Rattle.hm_messages_types.specs.CommonInstances.{HaveCommonInstance}
use Rattle.hm_messages_types.specs.WorkedInstances.{InstancesRow, a, function}
use Rattle.hm_messages_types.specs.WorkedShown.{pair, unit}
use Rattle.hm_messages_types.proofs.NoFiniteType.{no_common_instance}

no_pair : ¬ (HaveCommonInstance (function a unit) pair)
no_pair (f, e) = cc

no_list : ¬ (HaveCommonInstance a (app head.List (more a none)))
no_list (f, e) = no_common_instance a (app head.List (more a none)) f refl e

pub worked_instances_row : InstancesRow
worked_instances_row = record {
  agree = (λ n. pair, refl);
  apart = no_pair;
  infinite = no_list;
}
