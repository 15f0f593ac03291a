use Rattle.std.proofs.Common.{ℕ, List, Vec, sym, ap, ◌∙◌, subst}
use Rattle.std.specs.List.{concat}
use Rattle.std.specs.declared.alloc.Global.{Global}
use Rattle.hm_graph_components.specs.Digraph.{lists}
use Rattle.hm_graph_components.specs.NodeOrders.{IsOrder}
use Rattle.hm_graph_components.proofs.NodeOrders.{in_order}
use Rattle.hm_graph.proofs.directed.Digraph.order.Goals as goal

pub returns : goal.returns
returns c =
    subst (λ (o : List ℕ). IsOrder c.args.self.now o) (sym (c.in_ok-joined.ensures ∙ ap (λ (gs : List (Vec ℕ Global)). concat (lists gs)) c.deref.ensures.value))
    (in_order c.args.self.now (lists c.in_ok-groups.groups.items) c.in_ok-groups.ensures.groups)
