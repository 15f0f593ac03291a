use Rattle.std.proofs.Common.{ℕ, ◌+◌, ◌≤◌, length}
use Rattle.hm_infer_expressions.specs.GroupQuestions.{AreGivenTypes}
use Rattle.hm_infer_expressions.specs.OpenGroups.{ChangesOnly}
use Rattle.hm_infer_expressions.proofs.Placing.{PlacedBelow}
use Rattle.hm_infer_expressions.proofs.grouping.place_types.Given as goal

abbrev pub invariant-nodes : goal.invariant-nodes
invariant-nodes l = record {
  placed : PlacedBelow l.first l.group l.types l.place;
  changed : ChangesOnly l.group l.initial.types l.types;
  given : (g : ℕ) → l.first + length l.group ≤ g → AreGivenTypes g l.initial.types → AreGivenTypes g l.types;
}
