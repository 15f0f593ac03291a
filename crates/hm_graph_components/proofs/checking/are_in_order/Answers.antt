use Rattle.std.proofs.Common.{rules}
use Rattle.hm_graph_components.proofs.checking.are_in_order.Goals as goal

pub returns : goal.returns
returns c = λ first_is. record {
  earliest = c.in_ok-earliest.earliest.items;
  are_earliest = search rules;
  least_first = search rules;
}
