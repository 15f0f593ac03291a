use Rattle.std.proofs.Common.{◌≡◌, ◌<◌, ◌≤◌, ℕ, length, arith, sym, ◌∙◌, get_or, All, Contains}
use Rattle.std.proofs.lemmas.List.{with_items_is, get_or_default}
use Rattle.std.specs.Vec.{with_items}
use Rattle.hm_graph_components.specs.Digraph.{lists}
use Rattle.hm_graph_components.specs.Marks.{PlacesGroup, IsReady, AreLimits, IsHeld}
use Rattle.hm_graph_components.proofs.Rows.{lists-push}
use Rattle.hm_graph_components.proofs.Orderings.{IsOrdering-step, IsOrdering-end, unplaced_count-less, row_of-self}
use Rattle.hm_graph_components.proofs.groups.ordered_groups.Goals as goal

pub place-requires : goal.place-requires
place-requires c = λ k d below.
    let there : Contains c.in_ok-group.group.items (get_or c.deref-in-Some.result.now k d) =
    rw c.deref-in-Some.ensures.value (k, rw c.deref-in-Some.ensures.value at below, get_or_default c.in_ok-group.group.items k (get_or c.in_ok-group.group.items k d) d (rw c.deref-in-Some.ensures.value at below)) in
    let m = ((c.in_ok-group.ensures).members (get_or c.deref-in-Some.result.now k d)).0 there in
    omega (arith, m.0, c.loop-x.invariant.placed_len, c.deref_mut-in-Some.ensures.len, c.loop-x.placed.ok.0)

pub loop-x-smaller : goal.loop-x-smaller
loop-x-smaller c =
    let ready : IsReady c.args.table.now c.loop-x.placed.items c.in-Some.x = rw c.deref.ensures.value at c.in-Some.ensures.ready in
    let places : PlacesGroup c.in_ok-group.group.items c.loop-x.placed.items c.place.new.placed = rw (c.deref-in-Some.ensures.value, c.deref_mut-in-Some.ensures.value) at c.place.ensures in
    let long : length c.place.new.placed ≡ c.loop-x.placed.len = places.nodes ∙ sym c.loop-x.placed.ok.0 in
    let back : (with_items c.loop-x.placed c.place.new.placed).items ≡ c.place.new.placed = with_items_is c.loop-x.placed c.place.new.placed long in
    let below : c.in-Some.x < length c.args.table.now = omega (arith, ready.node, c.loop-x.invariant.placed_len) in
    rw back
    (unplaced_count-less c.loop-x.placed.items c.place.new.placed c.in_ok-group.group.items c.in-Some.x places ready.node ready.unplaced
    (row_of-self c.args.table.now c.in-Some.x c.in_ok-group.group.items below c.in_ok-group.ensures))

pub loop-x-preserved : goal.loop-x-preserved
loop-x-preserved c =
    let ready : IsReady c.args.table.now c.loop-x.placed.items c.in-Some.x = rw c.deref.ensures.value at c.in-Some.ensures.ready in
    let least : (z : ℕ) → z < c.in-Some.x → IsHeld c.args.table.now c.loop-x.placed.items z = rw c.deref.ensures.value at c.in-Some.ensures.least in
    let within : All (λ m. m ≤ length c.loop-x.placed.items) c.next_ready.new.limits = rw c.deref.ensures.value at c.in-Some.ensures.within in
    let are_limits : AreLimits c.args.table.now c.loop-x.placed.items c.next_ready.new.limits = rw c.deref.ensures.value at c.in-Some.ensures.limits in
    let places : PlacesGroup c.in_ok-group.group.items c.loop-x.placed.items c.place.new.placed = rw (c.deref-in-Some.ensures.value, c.deref_mut-in-Some.ensures.value) at c.place.ensures in
    let long : length c.place.new.placed ≡ c.loop-x.placed.len = places.nodes ∙ sym c.loop-x.placed.ok.0 in
    let back : (with_items c.loop-x.placed c.place.new.placed).items ≡ c.place.new.placed = with_items_is c.loop-x.placed c.place.new.placed long in
    let limits_long : length c.next_ready.new.limits ≡ c.loop-x.limits.len = c.next_ready.auto.limits ∙ c.deref_mut.ensures.len in
    let limits_back : (with_items c.loop-x.limits c.next_ready.new.limits).items ≡ c.next_ready.new.limits = with_items_is c.loop-x.limits c.next_ready.new.limits limits_long in
    rw (back, limits_back, c.in_ok-push.ensures.items, lists-push c.loop-x.groups.items c.in_ok-group.group)
    (IsOrdering-step c.args.table.now c.loop-x.placed.items c.place.new.placed c.loop-x.limits.items c.next_ready.new.limits (lists c.loop-x.groups.items) c.in_ok-group.group.items c.in-Some.x
    c.loop-x.invariant (limits_long ∙ c.loop-x.limits.ok.0) within are_limits ready least c.in_ok-group.ensures places)

pub returns : goal.returns
returns c = λ graph is.
    IsOrdering-end graph c.args.table.now c.loop-x.placed.items c.loop-x.limits.items (lists c.loop-x.groups.items) is c.loop-x.invariant
    (rw c.deref.ensures.value at c.in_default.ensures.none)
