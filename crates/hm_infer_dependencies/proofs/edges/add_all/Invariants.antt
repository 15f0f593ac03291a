use Rattle.std.proofs.Common.{◌≡◌, ℕ, ◌-◌, ◌↔◌, length, drop}
use Rattle.hm_graph_components.specs.Digraph.{Edge}
use Rattle.hm_syntax.specs.Lists.{declarations}
use Rattle.hm_infer_dependencies.specs.Nodes.{AllShown, ListEdge}
use Rattle.hm_infer_dependencies.proofs.edges.add_all.Given as goal

abbrev pub invariant-loop-behind : goal.invariant-loop-behind
invariant-loop-behind l = record {
  size : length l.graph ≡ length l.list.numbers;
  shown : AllShown l.shown (length l.list.numbers);
  edges : (x y : ℕ) → Edge l.graph x y ↔ ListEdge (declarations l.decls) l.list.numbers (declarations (drop (length l.decls - l.behind) l.decls)) x y;
}
