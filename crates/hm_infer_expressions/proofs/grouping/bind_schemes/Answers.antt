use Rattle.std.proofs.Common.{[], get_or, refl}
use Rattle.hm_unify.specs.Levels.{is_outer}
use Rattle.hm_infer_context.proofs.Extended.{extended}
use Rattle.hm_infer_expressions.proofs.Naming.{in_place, schemes_none, schemes_step, schemes_all}
use Rattle.hm_infer_expressions.proofs.ClosedGroups.{closing_alone}
use Rattle.hm_infer_expressions.proofs.grouping.bind_schemes.Goals as goal

pub nodes-init : goal.nodes-init
nodes-init c = record { bound = λ k all e A m s q. schemes_none k all c.args.group.now.types.now c.args.group.now.nodes.now m A c.args.environment.now; given = λ a. a; closed = λ n a. a; kept = ([], refl) }

pub nodes-preserved : goal.nodes-preserved
nodes-preserved c = record {
  bound = λ k all e A m s q. schemes_step k all c.args.group.now.types.now c.args.group.now.nodes.now m A c.nodes.place _ c.args.environment.now c.nodes.environment c.bind_node.new.environment c.nodes-test.true (c.in_ok-scheme.ensures.scheme A m s (q (get_or c.args.group.now.nodes.now c.nodes.place 0) (in_place c.args.group.now.nodes.now c.nodes.place 0 c.nodes-test.true))) (c.nodes.invariant.bound k all e A m s q) (c.in_ok-bind_node.ensures.bound k all e);
  given = λ a. c.in_ok-bind_node.ensures.given c.args.solver.now.given c.in_ok-scheme.ensures.given (c.nodes.invariant.given a);
  closed = λ n a. c.in_ok-bind_node.ensures.given 0 (closing_alone (is_outer c.args.solver.now.equations c.args.group.now.older) _ _ _ c.args.solver.now.given c.in_ok-scheme.ensures.closed c.in_ok-scheme.ensures.given (λ l i. n (get_or c.args.group.now.nodes.now c.nodes.place 0) (in_place c.args.group.now.nodes.now c.nodes.place 0 c.nodes-test.true) l i)) (c.nodes.invariant.closed n a);
  kept = extended c.args.environment.now c.nodes.environment c.bind_node.new.environment c.nodes.invariant.kept c.bind_node.ensures.kept;
}

pub returns-clause-bound : goal.returns-clause-bound
returns-clause-bound c = λ k all e A m s q. schemes_all k all c.args.group.now.types.now c.args.group.now.nodes.now m A c.nodes.place c.args.environment.now c.nodes.environment c.nodes-test.false (c.nodes.invariant.bound k all e A m s q)

pub returns-in_err-bind_node-clause-kept : goal.returns-in_err-bind_node-clause-kept
returns-in_err-bind_node-clause-kept c = extended c.args.environment.now c.nodes.environment c.bind_node.new.environment c.nodes.invariant.kept c.bind_node.ensures.kept
