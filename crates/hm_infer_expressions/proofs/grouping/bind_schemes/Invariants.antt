use Rattle.std.proofs.Common.{◌≡◌, ℕ, take}
use Rattle.hm_unify.specs.Levels.{is_outer}
use Rattle.hm_syntax.specs.Trees.{Declarations}
use Rattle.hm_names.specs.Syntax.{Known}
use Rattle.hm_typing.specs.Assumptions.{Assumptions, assumptions_put}
use Rattle.hm_typing.specs.Schemes.{Monotype}
use Rattle.hm_infer_dependencies.specs.Nodes.{list_nodes}
use Rattle.hm_infer_context.specs.Environments.{AreAssumed, Extends}
use Rattle.hm_infer_generalisation.specs.Generalisations.{IsSolution, KeepsEach, KeepsNone}
use Rattle.hm_infer_expressions.specs.BoundNames.{BindsSchemes}
use Rattle.hm_infer_expressions.proofs.grouping.bind_schemes.Given as goal

abbrev pub invariant-nodes : goal.invariant-nodes
invariant-nodes l = record {
  bound : (k : Known) (all : Declarations) → l.group.numbers.now ≡ list_nodes all all → (A : Assumptions) (m : ℕ → Monotype) → IsSolution l.solver.equations m → KeepsEach (is_outer l.solver.equations l.group.older) l.solver.equations l.group.types.now l.group.nodes.now (assumptions_put m A) → BindsSchemes k all l.group.types.now m A (take l.place l.group.nodes.now) l.initial.environment l.environment;
  given : AreAssumed l.solver.given l.initial.environment → AreAssumed l.solver.given l.environment;
  closed : KeepsNone (is_outer l.solver.equations l.group.older) l.solver.equations l.group.types.now l.group.nodes.now → AreAssumed 0 l.initial.environment → AreAssumed 0 l.environment;
  kept : Extends l.initial.environment l.environment;
}
