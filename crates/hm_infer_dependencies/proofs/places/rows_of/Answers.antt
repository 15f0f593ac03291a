use Rattle.std.proofs.Common.{ℕ, List, [], None, get_or, refl, length, ap, ◌∙◌, arith}
use Rattle.std.proofs.lemmas.List.{length-map, length-replicate, get_or_default}
use Rattle.hm_graph_components.specs.Digraph.{lists}
use Rattle.hm_syntax.specs.Lists.{declarations}
use Rattle.hm_infer_dependencies.specs.Nodes.{list_nodes}
use Rattle.hm_infer_dependencies.proofs.EdgeLists.{own_below, owner_read, length-owners}
use Rattle.hm_infer_dependencies.proofs.Belonging.{places_none, places_step, places_done}
use Rattle.hm_infer_dependencies.proofs.places.rows_of.Goals as goal

pub loop-behind-init : goal.loop-behind-init
loop-behind-init c = record {
  size = omega (arith, ap length c.in_ok-rows.ensures, length-map c.in_ok-rows.rows.items (λ r. r.items), length-replicate {A = List ℕ} c.args.count []);
  each = places_none c.args.decls.now (lists c.in_ok-rows.rows.items) c.args.count c.in_ok-rows.ensures;
}

pub bounds-nodes-behind : goal.bounds-nodes-behind
bounds-nodes-behind c = omega (arith, c.loop-behind-test.true, ap length c.requires.nodes, length-owners (declarations c.args.decls.now) c.args.decls.now)

pub add_place-requires : goal.add_place-requires
add_place-requires c =
    own_below c.args.decls.now c.loop-behind.behind c.args.nodes.now (list_nodes (declarations c.args.decls.now) (declarations c.args.decls.now)) (get_or c.args.nodes.now c.loop-behind.behind None) (length c.loop-behind.rows.items) c.loop-behind-test.true c.requires.nodes refl (c.loop-behind.invariant.size ∙ c.requires.count)
    (get_or_default c.args.nodes.now c.loop-behind.behind None (get_or c.args.nodes.now c.loop-behind.behind None) (omega (arith, c.loop-behind-test.true, ap length c.requires.nodes, length-owners (declarations c.args.decls.now) c.args.decls.now)))

pub loop-behind-preserved : goal.loop-behind-preserved
loop-behind-preserved c = record {
  size = c.in_ok-add_place.ensures.size ∙ c.loop-behind.invariant.size;
  each = places_step c.args.decls.now (lists c.loop-behind.rows.items) (lists c.add_place.new.rows.items) c.loop-behind.behind _ (get_or c.args.nodes.now c.loop-behind.behind None) c.loop-behind-test.true refl
      (owner_read c.args.decls.now c.loop-behind.behind c.args.nodes.now (get_or c.args.nodes.now c.loop-behind.behind None) c.loop-behind-test.true c.requires.nodes
      (get_or_default c.args.nodes.now c.loop-behind.behind None (get_or c.args.nodes.now c.loop-behind.behind None) (omega (arith, c.loop-behind-test.true, ap length c.requires.nodes, length-owners (declarations c.args.decls.now) c.args.decls.now))))
      c.in_ok-add_place.ensures.added c.loop-behind.invariant.each;
}

pub returns : goal.returns
returns c = places_done c.args.decls.now (lists c.loop-behind.rows.items) c.loop-behind.behind c.args.count c.loop-behind-test.false (length-map c.loop-behind.rows.items (λ r. r.items) ∙ c.loop-behind.invariant.size) c.loop-behind.invariant.each
