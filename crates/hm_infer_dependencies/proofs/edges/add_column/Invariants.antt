use Rattle.std.proofs.Common.{◌≡◌, length, take, Contains}
use Rattle.hm_infer_dependencies.specs.Nodes.{AddsEdges}
use Rattle.hm_infer_dependencies.proofs.edges.add_column.Given as goal

abbrev pub invariant-loop-from : goal.invariant-loop-from
invariant-loop-from l = record { size : length l.graph ≡ length l.initial.graph; edges : AddsEdges l.initial.graph l.graph (λ x y. (y ≡ l.to) × Contains (take l.from-index l.row) x) }
