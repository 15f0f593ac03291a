use Rattle.std.proofs.Common.{◌≡◌, ◌<◌, All, length, get_or, false, refl, sym, subst, arith}
use Rattle.hm_graph_components.specs.Digraph.{lists}
use Rattle.hm_infer.specs.UnitStarts.{AddsStart, HasMember}
use Rattle.hm_infer_expressions.proofs.ListSteps.{group_at, rows_long}
use Rattle.hm_infer_results.proofs.FaultyGroups.{one_at}
use Rattle.hm_infer.proofs.UnitStarts.{at_first, next_start}
use Rattle.hm_infer.proofs.unit_starts.unsigned_starts.Goals as goal

pub add_start-requires-clause-nodes : goal.add_start-requires-clause-nodes
add_start-requires-clause-nodes c =
    let low : c.groups.i < length c.args.found.now.groups.items = (let h = c.groups-test.true in omega (arith, h, c.len-i-end.ensures, c.args.found.now.groups.ok.0)) in
    let here : c.deref-in-groups.result.now ≡ get_or (lists c.args.found.now.groups.items) c.groups.i c.deref-in-groups.result.now = group_at c.args.found.now.groups.items c.groups.i c.index.result.now c.deref-in-groups.result.now low c.index.ensures c.deref-in-groups.ensures.value in
    subst (λ z. All (λ j. j < length z) c.deref-in-groups.result.now) (sym c.deref.ensures.value)
    (c.requires.nodes c.deref-in-groups.result.now (one_at (lists c.args.found.now.groups.items) c.groups.i c.deref-in-groups.result.now (rows_long c.args.found.now.groups.items c.groups.i low) here))

pub add_start-requires-clause-some : goal.add_start-requires-clause-some
add_start-requires-clause-some c =
    let low : c.groups.i < length c.args.found.now.groups.items = (let h = c.groups-test.true in omega (arith, h, c.len-i-end.ensures, c.args.found.now.groups.ok.0)) in
    let here : c.deref-in-groups.result.now ≡ get_or (lists c.args.found.now.groups.items) c.groups.i c.deref-in-groups.result.now = group_at c.args.found.now.groups.items c.groups.i c.index.result.now c.deref-in-groups.result.now low c.index.ensures c.deref-in-groups.ensures.value in
    subst (λ z. HasMember (lists z) c.deref-in-groups.result.now) (sym c.deref.ensures.value)
    (c.requires.some c.deref-in-groups.result.now (one_at (lists c.args.found.now.groups.items) c.groups.i c.deref-in-groups.result.now (rows_long c.args.found.now.groups.items c.groups.i low) here))

pub groups-preserved : goal.groups-preserved
groups-preserved c =
    let low : c.groups.i < length c.args.found.now.groups.items = (let h = c.groups-test.true in omega (arith, h, c.len-i-end.ensures, c.args.found.now.groups.ok.0)) in
    let here : c.deref-in-groups.result.now ≡ get_or (lists c.args.found.now.groups.items) c.groups.i c.deref-in-groups.result.now = group_at c.args.found.now.groups.items c.groups.i c.index.result.now c.deref-in-groups.result.now low c.index.ensures c.deref-in-groups.ensures.value in
    let long = rows_long c.args.found.now.groups.items c.groups.i low in
    next_start (lists c.args.found.now.rows.items) (lists c.args.found.now.groups.items) c.args.faulty.now c.groups.i c.deref-in-groups.result.now c.groups.starts.items c.add_start.new.starts.items long (at_first (lists c.args.found.now.groups.items) c.groups.i c.deref-in-groups.result.now long here)
    (get_or c.args.faulty.now c.groups.i false) refl c.groups.invariant
    (subst (λ z. AddsStart (get_or c.args.faulty.now c.groups.i false) (lists z) c.deref-in-groups.result.now c.groups.starts.items c.add_start.new.starts.items) c.deref.ensures.value c.in_ok-add_start.ensures)
