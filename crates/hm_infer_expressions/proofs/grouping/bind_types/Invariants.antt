use Rattle.std.proofs.Common.{◌≡◌, ℕ, take}
use Rattle.hm_syntax.specs.Trees.{Declarations}
use Rattle.hm_names.specs.Syntax.{Known}
use Rattle.hm_infer_dependencies.specs.Nodes.{list_nodes}
use Rattle.hm_infer_context.specs.Environments.{AreAssumed, Extends}
use Rattle.hm_infer_expressions.specs.GroupQuestions.{AreGivenTypes}
use Rattle.hm_infer_expressions.specs.BoundNames.{BindsTypes}
use Rattle.hm_infer_expressions.proofs.grouping.bind_types.Given as goal

abbrev pub invariant-nodes : goal.invariant-nodes
invariant-nodes l = record {
  bound : (k : Known) (all : Declarations) → l.numbers ≡ list_nodes all all → BindsTypes k all l.types (take l.place l.group) l.initial.environment l.environment;
  given : (g : ℕ) → AreGivenTypes g l.types → AreAssumed g l.initial.environment → AreAssumed g l.environment;
  kept : Extends l.initial.environment l.environment;
}
