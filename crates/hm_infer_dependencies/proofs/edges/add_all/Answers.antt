use Rattle.std.proofs.Common.{length, sym, ap, ◌∙◌, subst, arith}
use Rattle.hm_syntax.specs.Lists.{declarations}
use Rattle.hm_infer_dependencies.specs.Nodes.{AllShown}
use Rattle.hm_infer_dependencies.proofs.EdgeLists.{edges_none, edges_step, own_below, owner_read, graph_done, step_here, length-owners}
use Rattle.hm_infer_dependencies.proofs.edges.add_all.Goals as goal

pub loop-behind-init : goal.loop-behind-init
loop-behind-init c = record { size = c.requires.size; shown = c.requires.shown; edges = edges_none (declarations c.args.decls.now) c.args.list.now.numbers c.args.decls.now c.args.graph.now c.requires.empty }

pub index-owner-requires : goal.index-owner-requires
index-owner-requires c = omega (arith, c.loop-behind-test.true, c.args.list.now.owners.ok.0, ap length c.requires.owners, length-owners (declarations c.args.decls.now) c.args.decls.now)

pub add_owned-requires-clause-own : goal.add_owned-requires-clause-own
add_owned-requires-clause-own c = own_below c.args.decls.now c.loop-behind.behind c.args.list.now.owners.items c.args.list.now.numbers c.index-owner.result.now (length c.loop-behind.graph) c.loop-behind-test.true c.requires.owners c.requires.nodes c.loop-behind.invariant.size c.index-owner.ensures

pub loop-behind-preserved : goal.loop-behind-preserved
loop-behind-preserved c = record {
  size = c.in_ok-add_owned.ensures.len ∙ c.loop-behind.invariant.size;
  shown = subst (λ s. AllShown s (length c.args.list.now.numbers)) (sym c.in_ok-add_owned.ensures.shown) c.loop-behind.invariant.shown;
  edges = edges_step (declarations c.args.decls.now) c.args.list.now.numbers c.args.decls.now c.loop-behind.behind c.index-decls-place.result c.index-owner.result.now c.loop-behind.graph c.add_owned.new.graph
      (step_here c.args.decls.now c.loop-behind.behind c.index-decls-place.result c.loop-behind-test.true c.index-decls-place.is)
      (owner_read c.args.decls.now c.loop-behind.behind c.args.list.now.owners.items c.index-owner.result.now c.loop-behind-test.true c.requires.owners c.index-owner.ensures)
      c.in_ok-add_owned.ensures.edges c.loop-behind.invariant.edges;
}

pub returns : goal.returns
returns c = graph_done c.args.decls.now c.loop-behind.behind c.args.list.now.numbers c.loop-behind.graph c.loop-behind-test.false c.requires.nodes c.loop-behind.invariant.size c.loop-behind.invariant.edges
