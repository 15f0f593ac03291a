use Rattle.std.proofs.Common.{[], get_or, refl, arith}
use Rattle.hm_infer_context.proofs.Extended.{extended}
use Rattle.hm_infer_expressions.proofs.Naming.{types_none, types_step, types_all}
use Rattle.hm_infer_expressions.proofs.grouping.bind_types.Goals as goal

pub nodes-init : goal.nodes-init
nodes-init c = record { bound = λ k all e. types_none k all c.args.types.now c.args.group.now c.args.environment.now; given = λ g t a. a; kept = ([], refl) }

pub nodes-preserved : goal.nodes-preserved
nodes-preserved c = record {
  bound = λ k all e. types_step k all c.args.types.now c.args.group.now c.nodes.place c.args.environment.now c.nodes.environment c.bind_node.new.environment c.nodes-test.true (c.nodes.invariant.bound k all e) (c.in_ok-bind_node.ensures.bound k all e);
  given = λ g t a. c.in_ok-bind_node.ensures.given g (let h = c.requires.nodes c.nodes.place 0 c.nodes-test.true in let l = t (get_or c.args.group.now c.nodes.place 0) (omega (arith, h, c.requires.types)) in omega (arith, l)) (c.nodes.invariant.given g t a);
  kept = extended c.args.environment.now c.nodes.environment c.bind_node.new.environment c.nodes.invariant.kept c.bind_node.ensures.kept;
}

pub returns-clause-bound : goal.returns-clause-bound
returns-clause-bound c = λ k all e. types_all k all c.args.types.now c.args.group.now c.nodes.place c.args.environment.now c.nodes.environment c.nodes-test.false (c.nodes.invariant.bound k all e)

pub returns-in_err-bind_node-clause-kept : goal.returns-in_err-bind_node-clause-kept
returns-in_err-bind_node-clause-kept c = extended c.args.environment.now c.nodes.environment c.bind_node.new.environment c.nodes.invariant.kept c.bind_node.ensures.kept
