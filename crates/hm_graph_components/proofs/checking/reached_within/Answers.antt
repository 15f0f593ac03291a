use Rattle.std.proofs.Common.{◌≡◌, ◌<◌, ◌∙◌, [], length, get_or, arith, rules}
use Rattle.std.specs.Vec.{with_items}
use Rattle.std.proofs.lemmas.List.{length-map, with_items_is, take_all}
use Rattle.hm_graph_components.specs.Digraph.{lists}
use Rattle.hm_graph_components.specs.Checks.{number_of, MarksWithin}
use Rattle.hm_graph_components.proofs.Rows.{row_at, All-row_at}
use Rattle.hm_graph_components.proofs.ChecksSoFar.{IsReachedWithinSearch-start, IsReachedWithinSearch-step, IsReachedWithinSearch-popped}
use Rattle.hm_graph_components.proofs.checking.reached_within.Goals as goal

pub loop-x-init : goal.loop-x-init
loop-x-init c =
    let n_is : length (lists c.args.rows.now) ≡ length c.args.rows.now = length-map c.args.rows.now (λ r. r.items) in
    let all_wait : c.loop-least.waiting.items ≡ c.args.leasts.now = c.loop-least.invariant ∙ take_all c.loop-least.least-index c.args.leasts.now (omega arith) in
    IsReachedWithinSearch-start (lists c.args.rows.now) c.args.numbers.now c.args.leasts.now c.in_ok-marks.marks.items c.loop-least.waiting.items
    (rw n_is (search rules)) all_wait (rw n_is c.requires.leasts)

pub bounds-rows-x : goal.bounds-rows-x
bounds-rows-x c = IsReachedWithinSearch-popped c.args.rows.now c.args.numbers.now c.args.leasts.now c.in-Some.x c.loop-x.marks.items c.loop-x.waiting.items c.pop.new.self.items c.in-Some.ensures.items c.loop-x.invariant

pub offset_bounds-rows-x : goal.offset_bounds-rows-x
offset_bounds-rows-x c =
    let below : c.in-Some.x < length c.args.rows.now = IsReachedWithinSearch-popped c.args.rows.now c.args.numbers.now c.args.leasts.now c.in-Some.x c.loop-x.marks.items c.loop-x.waiting.items c.pop.new.self.items c.in-Some.ensures.items c.loop-x.invariant in
    search rules

pub bounds-numbers-x : goal.bounds-numbers-x
bounds-numbers-x c =
    let below : c.in-Some.x < length c.args.rows.now = IsReachedWithinSearch-popped c.args.rows.now c.args.numbers.now c.args.leasts.now c.in-Some.x c.loop-x.marks.items c.loop-x.waiting.items c.pop.new.self.items c.in-Some.ensures.items c.loop-x.invariant in
    omega (arith, c.requires.len)

pub offset_bounds-numbers-x : goal.offset_bounds-numbers-x
offset_bounds-numbers-x c =
    let below : c.in-Some.x < length c.args.rows.now = IsReachedWithinSearch-popped c.args.rows.now c.args.numbers.now c.args.leasts.now c.in-Some.x c.loop-x.marks.items c.loop-x.waiting.items c.pop.new.self.items c.in-Some.ensures.items c.loop-x.invariant in
    let inside : c.in-Some.x < length c.args.numbers.now = omega (arith, c.requires.len) in
    search rules

pub mark_within-requires-clause-numbers : goal.mark_within-requires-clause-numbers
mark_within-requires-clause-numbers c =
    let below : c.in-Some.x < length c.args.rows.now = IsReachedWithinSearch-popped c.args.rows.now c.args.numbers.now c.args.leasts.now c.in-Some.x c.loop-x.marks.items c.loop-x.waiting.items c.pop.new.self.items c.in-Some.ensures.items c.loop-x.invariant in
    let n_is : length c.args.numbers.now ≡ length (lists c.args.rows.now) = omega (arith, c.requires.len, length-map c.args.rows.now (λ r. r.items)) in
    rw c.deref.ensures.value
    (All-row_at c.args.rows.now c.in-Some.x (length c.args.numbers.now) c.index-rows-x.result c.requires.closed below c.index-rows-x.is n_is)

pub loop-x-preserved : goal.loop-x-preserved
loop-x-preserved c =
    let below : c.in-Some.x < length c.args.rows.now = IsReachedWithinSearch-popped c.args.rows.now c.args.numbers.now c.args.leasts.now c.in-Some.x c.loop-x.marks.items c.loop-x.waiting.items c.pop.new.self.items c.in-Some.ensures.items c.loop-x.invariant in
    let long : length c.mark_within.new.marks ≡ c.loop-x.marks.len = c.mark_within.auto.marks ∙ c.deref_mut.ensures.len in
    let back : (with_items c.loop-x.marks c.mark_within.new.marks).items ≡ c.mark_within.new.marks = with_items_is c.loop-x.marks c.mark_within.new.marks long in
    let row : MarksWithin (get_or (lists c.args.rows.now) c.in-Some.x []) (number_of c.args.numbers.now c.in-Some.x) c.args.numbers.now c.loop-x.marks.items c.mark_within.new.marks c.pop.new.self.items c.mark_within.new.waiting.items =
    rw (row_at c.args.rows.now c.in-Some.x c.index-rows-x.result below c.index-rows-x.is, ← c.deref.ensures.value, ← c.deref_mut.ensures.value) c.in_ok-mark_within.ensures in
    rw back
    (IsReachedWithinSearch-step (lists c.args.rows.now) c.args.numbers.now c.args.leasts.now c.in-Some.x c.loop-x.marks.items c.mark_within.new.marks c.loop-x.waiting.items c.pop.new.self.items c.mark_within.new.waiting.items c.requires.closed c.in-Some.ensures.items c.loop-x.invariant row)
