use Rattle.std.proofs.Common.{[], ◌∷◌, ap, ◌∙◌}
use Rattle.hm_graph_components.specs.Digraph.{lists}
use Rattle.hm_graph_components.proofs.LoneNode.{lone_groups}
use Rattle.hm_graph_components.proofs.groups.lone_group.Goals as goal

pub returns : goal.returns
returns c =
    lone_groups c.args.rows.now c.push-2.new.self.items c.requires.closed c.requires.one
    (ap lists (rw c.new-groups.ensures.items at c.in_ok-push-2.ensures.items) ∙ ap (λ group. group ∷ []) (rw c.new-group.ensures.items at c.in_ok-push.ensures.items))
