use Rattle.std.proofs.Common.{◌≡◌, ℕ, ◌+◌, ◌<◌, ◌≤◌, ◌↔◌, length, drop, Some}
use Rattle.hm_graph_components.specs.Digraph.{Edge, lists}
use Rattle.hm_syntax.specs.Lists.{declarations}
use Rattle.hm_infer_dependencies.specs.Nodes.{owner}
use Rattle.hm_infer_dependencies.proofs.places.rows_of.Given as goal

abbrev pub invariant-loop-behind : goal.invariant-loop-behind
invariant-loop-behind l = record {
  size : length l.rows.items ≡ l.fn.count;
  each : (own place : ℕ) → Edge (lists l.rows.items) own place ↔ ((place < length l.decls) × ((length l.decls ≤ place + l.behind) × (owner (declarations l.decls) (declarations (drop place l.decls)) ≡ Some own)));
}
