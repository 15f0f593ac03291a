use Rattle.std.proofs.Common.{◌≡◌, ◌<◌, ℕ, length, map, get_or}
use Rattle.std.specs.Arc.{arc_value}
use Rattle.hm_build_messages.specs.Explanations.{Numbered, IsRowOf, named_of}
use Rattle.hm_build_messages.proofs.explaining.numbered.Given as goal

abbrev pub invariant-loop-number : goal.invariant-loop-number
invariant-loop-number l = (length (map named_of l.rows.items) ≡ l.number)
    × ((k : ℕ) (d : Numbered) → k < length (map named_of l.rows.items) → IsRowOf (map arc_value l.modules) k (get_or (map named_of l.rows.items) k d))
