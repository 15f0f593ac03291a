use Rattle.std.proofs.Common.{◌≤◌, All, take}
use Rattle.hm_graph_components.specs.Checks.{number_of}
use Rattle.hm_graph_components.proofs.checking.is_not_ahead.Given as goal

abbrev pub invariant-loop-y : goal.invariant-loop-y
invariant-loop-y l = All (λ y. number_of l.numbers y ≤ l.number) (take l.y-index l.row)
