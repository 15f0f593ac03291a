use Rattle.std.proofs.Common.{◌≡◌}
use Rattle.hm_infer_context.proofs.Outcomes.{SolvedBy}
use Rattle.hm_infer_expressions.proofs.NodeTypes.{Rows}
use Rattle.hm_infer_expressions.proofs.bindings.equate_types.Given as goal

abbrev pub invariant-items : goal.invariant-items
invariant-items l = record {
  given : l.solver.given ≡ l.initial.solver.given;
  solved : SolvedBy (Rows l.types l.own l.items l.i) l.initial.solver l.solver;
}
