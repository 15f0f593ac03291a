use Rattle.std.proofs.Common.{false, take}
use Rattle.hm_infer_expressions.specs.Dependences.{IsMarked}
use Rattle.hm_infer_results.proofs.dependences.unmark.Given as goal

abbrev pub invariant-nodes : goal.invariant-nodes
invariant-nodes l = IsMarked (take l.node-index l.group) false l.initial.typed l.typed
