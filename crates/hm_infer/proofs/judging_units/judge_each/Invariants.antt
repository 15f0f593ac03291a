use Rattle.std.proofs.Common.{◌≡◌, ◌++◌, List, length}
use Rattle.hm_graph_components.specs.Digraph.{lists}
use Rattle.hm_infer_dependencies.specs.Nodes.{AllShown}
use Rattle.hm_infer_context.specs.Environments.{Extends, AreAssumed, Assumed}
use Rattle.hm_infer_context.specs.Constructors.{known_of}
use Rattle.hm_infer_expressions.specs.OpenGroups.{AreUpTo}
use Rattle.hm_infer.specs.JudgedUnits.{UnitsJudged}
use Rattle.hm_infer.proofs.judging_units.judge_each.Given as goal

abbrev pub invariant-groups : goal.invariant-groups
invariant-groups l = record {
  judged : (added base : List Assumed) → l.initial.inference.environment ≡ added ++ base → UnitsJudged (known_of l.list.constructors.now) l.list.decls.now (lists l.list.found.now.groups.items) (length l.list.found.now.numbers) 0 base l.initial.inference.environment l.initial.typed → UnitsJudged (known_of l.list.constructors.now) l.list.decls.now (lists l.list.found.now.groups.items) (length l.list.found.now.numbers) l.i base l.inference.environment l.typed;
  closed : AreAssumed 0 l.inference.environment;
  kept : Extends l.initial.inference.environment l.inference.environment;
  sized : length l.typed ≡ length l.list.found.now.numbers;
  shown : AllShown l.shown (length l.list.found.now.numbers);
  types : length l.types ≡ length l.list.found.now.numbers;
  numbers : AreUpTo 0 l.types;
}
