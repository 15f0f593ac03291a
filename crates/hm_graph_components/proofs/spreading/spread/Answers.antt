use Rattle.std.proofs.Common.{◌<◌, ◌≡◌, get_or, length, sym, ◌∙◌, rules, [], vec_len}
use Rattle.std.proofs.lemmas.List.{nil_from_length}
use Rattle.hm_graph_components.specs.Digraph.{lists}
use Rattle.hm_graph_components.specs.Marks.{MarksRow}
use Rattle.hm_graph_components.proofs.Rows.{row_at, All-row_at}
use Rattle.hm_graph_components.proofs.SpreadMarks.{spreading_starts, spreading_step, spreading_ends, spreading_within}
use Rattle.hm_graph_components.proofs.spreading.spread.Goals as goal

pub bounds-rows-x : goal.bounds-rows-x
bounds-rows-x c = spreading_within c.args.rows.now c.in-Some.x c.args.marks.now c.loop-x.marks c.loop-x.waiting.items c.pop.new.self.items c.requires.nodes c.in-Some.ensures.items c.loop-x.invariant

pub offset_bounds-rows-x : goal.offset_bounds-rows-x
offset_bounds-rows-x c =
    let below : c.in-Some.x < length c.args.rows.now = spreading_within c.args.rows.now c.in-Some.x c.args.marks.now c.loop-x.marks c.loop-x.waiting.items c.pop.new.self.items c.requires.nodes c.in-Some.ensures.items c.loop-x.invariant in
    search rules

pub mark_row-requires : goal.mark_row-requires
mark_row-requires c =
    let below : c.in-Some.x < length c.args.rows.now = spreading_within c.args.rows.now c.in-Some.x c.args.marks.now c.loop-x.marks c.loop-x.waiting.items c.pop.new.self.items c.requires.nodes c.in-Some.ensures.items c.loop-x.invariant in
    rw c.deref.ensures.value
    (All-row_at c.args.rows.now c.in-Some.x (length c.loop-x.marks) c.index-rows-x.result c.requires.closed below c.index-rows-x.is (c.loop-x.invariant.nodes ∙ c.requires.nodes))

pub loop-x-preserved : goal.loop-x-preserved
loop-x-preserved c =
    let x = c.in-Some.x in
    let below : x < length c.args.rows.now = spreading_within c.args.rows.now x c.args.marks.now c.loop-x.marks c.loop-x.waiting.items c.pop.new.self.items c.requires.nodes c.in-Some.ensures.items c.loop-x.invariant in
    let row : MarksRow (get_or (lists c.args.rows.now) x []) c.loop-x.marks c.mark_row.new.marks c.pop.new.self.items c.mark_row.new.waiting.items =
    rw (row_at c.args.rows.now x c.index-rows-x.result below c.index-rows-x.is, ← c.deref.ensures.value) c.in_ok-mark_row.ensures in
    spreading_step (lists c.args.rows.now) x c.args.marks.now c.loop-x.marks c.mark_row.new.marks c.loop-x.waiting.items c.pop.new.self.items c.mark_row.new.waiting.items c.in-Some.ensures.items c.loop-x.invariant row

pub returns : goal.returns
returns c =
    let none : vec_len c.loop-x.waiting ≡ 0 = c.in_default.ensures.cases.0 in
    let empty : c.loop-x.waiting.items ≡ [] = nil_from_length c.loop-x.waiting.items (sym c.loop-x.waiting.ok.0 ∙ none) in
    spreading_ends (lists c.args.rows.now) c.args.marks.now c.loop-x.marks (rw empty at c.loop-x.invariant)
