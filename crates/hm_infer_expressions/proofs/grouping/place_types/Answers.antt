use Rattle.std.proofs.Common.{refl, ◌∙◌, arith}
use Rattle.hm_infer_expressions.proofs.Placing.{placed_step, placed_all, placed_none, elsewhere, types_set}
use Rattle.hm_infer_expressions.proofs.grouping.place_types.Goals as goal

pub nodes-init : goal.nodes-init
nodes-init c = record { placed = placed_none c.args.first c.args.group.now c.args.types.now; changed = λ j n. refl; given = λ g h a. a }

pub nodes-preserved : goal.nodes-preserved
nodes-preserved c = record {
  placed = placed_step c.args.first c.args.group.now c.nodes.types _ c.nodes.place c.nodes-test.true (let h = c.requires.nodes c.nodes.place 0 c.nodes-test.true in omega (arith, h, c.nodes.auto.types)) refl c.nodes.invariant.placed;
  changed = λ j n. elsewhere c.args.group.now c.nodes.types c.nodes.place j _ c.nodes-test.true n ∙ c.nodes.invariant.changed j n;
  given = λ g h a. types_set g c.nodes.types _ _ (let l = c.nodes-test.true in omega (arith, h, l)) (c.nodes.invariant.given g h a);
}

pub returns-clause-placed : goal.returns-clause-placed
returns-clause-placed c = placed_all c.args.first c.args.group.now c.nodes.types c.nodes.place c.nodes-test.false c.nodes.auto.place-end c.nodes.invariant.placed
