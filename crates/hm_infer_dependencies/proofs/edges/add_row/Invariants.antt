use Rattle.std.proofs.Common.{◌≡◌, length, take, Contains}
use Rattle.hm_infer_dependencies.specs.Nodes.{AddsEdges}
use Rattle.hm_infer_dependencies.proofs.edges.add_row.Given as goal

abbrev pub invariant-loop-to : goal.invariant-loop-to
invariant-loop-to l = record { size : length l.graph ≡ length l.initial.graph; edges : AddsEdges l.initial.graph l.graph (λ x y. (x ≡ l.from) × Contains (take l.to-index l.row) y) }
