use Rattle.std.proofs.Common.{◌≡◌, take}
use Rattle.std.specs.List.{concat}
use Rattle.hm_graph_components.specs.Digraph.{lists}
use Rattle.hm_graph_components.proofs.recursion.joined.Given as goal

abbrev pub invariant-groups : goal.invariant-groups
invariant-groups l = l.all.items ≡ concat (lists (take l.group-index l.groups))
