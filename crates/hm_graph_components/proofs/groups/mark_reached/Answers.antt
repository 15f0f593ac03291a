use Rattle.std.proofs.Common.{◌<◌, ◌≡◌, ◌∷◌, get_or, length, ap, sym, ◌∙◌, rules, [], vec_len, arith, length-append}
use Rattle.std.proofs.lemmas.List.{nil_from_length}
use Rattle.hm_graph_components.specs.Digraph.{lists}
use Rattle.hm_graph_components.specs.Marks.{MarksRow}
use Rattle.hm_graph_components.proofs.Rows.{row_at, All-row_at}
use Rattle.hm_graph_components.proofs.Searches.{IsSearch-step, IsSearch-end, IsSearch-popped}
use Rattle.hm_graph_components.proofs.groups.mark_reached.Goals as goal

pub bounds-rows-x : goal.bounds-rows-x
bounds-rows-x c = IsSearch-popped c.args.rows.now c.args.from c.in-Some.x c.loop-x.marks c.loop-x.waiting.items c.pop.new.self.items c.requires.from c.in-Some.ensures.items c.loop-x.invariant.search_of

pub offset_bounds-rows-x : goal.offset_bounds-rows-x
offset_bounds-rows-x c =
    let below : c.in-Some.x < length c.args.rows.now = IsSearch-popped c.args.rows.now c.args.from c.in-Some.x c.loop-x.marks c.loop-x.waiting.items c.pop.new.self.items c.requires.from c.in-Some.ensures.items c.loop-x.invariant.search_of in
    search rules

pub mark_in_room-requires-clause-within : goal.mark_in_room-requires-clause-within
mark_in_room-requires-clause-within c =
    let below : c.in-Some.x < length c.args.rows.now = IsSearch-popped c.args.rows.now c.args.from c.in-Some.x c.loop-x.marks c.loop-x.waiting.items c.pop.new.self.items c.requires.from c.in-Some.ensures.items c.loop-x.invariant.search_of in
    rw c.deref.ensures.value
    (All-row_at c.args.rows.now c.in-Some.x (length c.loop-x.marks) c.index-rows-x.result c.requires.closed below c.index-rows-x.is c.loop-x.invariant.search_of.nodes)

pub loop-x-preserved : goal.loop-x-preserved
loop-x-preserved c =
    let x = c.in-Some.x in
    let below : x < length c.args.rows.now = IsSearch-popped c.args.rows.now c.args.from x c.loop-x.marks c.loop-x.waiting.items c.pop.new.self.items c.requires.from c.in-Some.ensures.items c.loop-x.invariant.search_of in
    let row : MarksRow (get_or (lists c.args.rows.now) x []) c.loop-x.marks c.mark_in_room.new.marks c.pop.new.self.items c.mark_in_room.new.waiting.items =
    rw (row_at c.args.rows.now x c.index-rows-x.result below c.index-rows-x.is, ← c.deref.ensures.value) c.mark_in_room.ensures.row in
    let fewer = ap length c.in-Some.ensures.items ∙ length-append c.pop.new.self.items (x ∷ []) in
    let work = row.work in
    let room = c.loop-x.invariant.room in
    record {
      search_of = IsSearch-step (lists c.args.rows.now) c.args.from x c.loop-x.marks c.mark_in_room.new.marks c.loop-x.waiting.items c.pop.new.self.items c.mark_in_room.new.waiting.items c.in-Some.ensures.items c.loop-x.invariant.search_of row;
      room = omega (arith, work, room, fewer, c.mark_in_room.ensures.capacity, c.pop.ensures.capacity);
      capacity = c.mark_in_room.ensures.capacity ∙ (c.pop.ensures.capacity ∙ c.loop-x.invariant.capacity);
    }

pub returns-clause-reached : goal.returns-clause-reached
returns-clause-reached c =
    let none : vec_len c.loop-x.waiting ≡ 0 = c.in_default.ensures.cases.0 in
    let empty : c.loop-x.waiting.items ≡ [] = nil_from_length c.loop-x.waiting.items (sym c.loop-x.waiting.ok.0 ∙ none) in
    IsSearch-end (lists c.args.rows.now) c.args.from c.loop-x.marks (rw empty at c.loop-x.invariant.search_of)
