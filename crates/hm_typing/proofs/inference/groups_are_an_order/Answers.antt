use Rattle.hm_typing.specs.Laws.{GroupsGiveOrder, NumberedGroupsAreGroups, HasGroups}
use Rattle.hm_typing.proofs.Ordering.{layout_of, layout_tests, groups}
use Rattle.hm_typing.proofs.Numbering.{numbered}
use Rattle.hm_typing.proofs.inference.groups_are_an_order.Goals as goal

order : GroupsGiveOrder
order ds d gs r = (layout_of ds d gs r, layout_tests ds d gs r)

each : HasGroups
each ds = groups ds

numbered_groups : NumberedGroupsAreGroups
numbered_groups ds name n gs r = numbered ds name n gs r

pub returns : goal.returns
returns c = record { groups_give_order = order; numbered_groups = numbered_groups; has_groups = each }
