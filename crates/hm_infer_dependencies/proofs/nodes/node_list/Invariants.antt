use Rattle.std.proofs.Common.{◌≡◌, ◌-◌, length, drop}
use Rattle.hm_syntax.specs.Trees.{Declarations}
use Rattle.hm_syntax.specs.Lists.{declarations}
use Rattle.hm_infer_dependencies.specs.Nodes.{AreSigned, list_nodes, owner, owners}
use Rattle.hm_infer_dependencies.proofs.nodes.node_list.Given as goal

abbrev pub invariant-loop-behind : goal.invariant-loop-behind
invariant-loop-behind l = record {
  nodes : (all : Declarations) → AreSigned all l.signed → l.numbers ≡ list_nodes all (declarations (drop (length l.decls - l.behind) l.decls));
  last : (all : Declarations) → AreSigned all l.signed → l.owner ≡ owner all (declarations (drop (length l.decls - l.behind) l.decls));
  each : (all : Declarations) → AreSigned all l.signed → l.owners.items ≡ owners all (declarations (drop (length l.decls - l.behind) l.decls));
}
