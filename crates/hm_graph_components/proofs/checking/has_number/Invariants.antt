use Rattle.std.proofs.Common.{◌≡◌, ◌<◌, length, All, take}
use Rattle.hm_graph_components.specs.Checks.{number_of}
use Rattle.hm_graph_components.proofs.checking.has_number.Given as goal

abbrev pub invariant-loop-x : goal.invariant-loop-x
invariant-loop-x l = All (λ x. (x < length l.numbers) × (number_of l.numbers x ≡ l.number)) (take l.x-index l.group)
