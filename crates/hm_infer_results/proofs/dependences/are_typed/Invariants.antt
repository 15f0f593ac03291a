use Rattle.std.proofs.Common.{take, true, Contains}
use Rattle.hm_infer_expressions.specs.Dependences.{TellsNodes}
use Rattle.hm_infer_results.proofs.dependences.are_typed.Given as goal

abbrev pub invariant-nodes : goal.invariant-nodes
invariant-nodes l = TellsNodes true l.typed (Contains (take l.node-index l.nodes))
