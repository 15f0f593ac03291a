use Rattle.std.proofs.Common.{take}
use Rattle.hm_names_keys.specs.Keys.{variable_of_key}
use Rattle.hm_infer_dependencies.specs.Numberings.{nodes_of, IsNode}
use Rattle.hm_infer_dependencies.proofs.numbers.place_among_few.Given as goal

abbrev pub invariant-nodes : goal.invariant-nodes
invariant-nodes l = ¬ (IsNode (nodes_of (take l.number l.nodes)) (variable_of_key l.key))
