use Rattle.std.proofs.Common.{◌≡◌, ◌<◌, ◌∙◌, sym, length, All, arith, length-set}
use Rattle.std.proofs.lemmas.List.{length-map}
use Rattle.hm_graph_components.specs.Digraph.{lists}
use Rattle.hm_graph_components.proofs.Rows.{All-row_at}
use Rattle.hm_graph_components.proofs.Walks.{All-before, All-last, All-set, All-waiting}
use Rattle.hm_graph_components.proofs.components.number_component.Goals as goal

pub mark_row-requires : goal.mark_row-requires
mark_row-requires c =
    let (m_len, n_len, nums, waits) = c.loop-x.invariant in
    let x_in : c.in-Some.x < length c.args.rows.now = All-last (λ x. x < length c.args.rows.now) c.loop-x.waiting.items c.pop.new.self.items c.in-Some.x c.in-Some.ensures.items waits in
    let n_is : length c.loop-x.marks ≡ length (lists c.args.rows.now) = omega (arith, m_len, length-map c.args.rows.now (λ r. r.items)) in
    rw c.deref.ensures.value (All-row_at c.args.rows.now c.in-Some.x (length c.loop-x.marks) c.index-rows-x.result c.requires.closed x_in c.index-rows-x.is n_is)

pub loop-x-preserved : goal.loop-x-preserved
loop-x-preserved c =
    let (m_len, n_len, nums, waits) = c.loop-x.invariant in
    let x_in : c.in-Some.x < length c.args.rows.now = All-last (λ x. x < length c.args.rows.now) c.loop-x.waiting.items c.pop.new.self.items c.in-Some.x c.in-Some.ensures.items waits in
    let n_is : length c.args.rows.now ≡ length (lists c.args.rows.now) = sym (length-map c.args.rows.now (λ r. r.items)) in
    let row : All (λ x. x < length c.args.rows.now) c.deref.result.now =
    rw c.deref.ensures.value (All-row_at c.args.rows.now c.in-Some.x (length c.args.rows.now) c.index-rows-x.result c.requires.closed x_in c.index-rows-x.is n_is) in (
      c.mark_row.auto.marks ∙ m_len,
      length-set c.loop-x.numbers c.in-Some.x c.args.start ∙ n_len,
      All-set (λ x. x < length c.args.rows.now) c.loop-x.numbers c.in-Some.x c.args.start (omega (arith, n_len, x_in)) nums c.requires.start,
      All-waiting (length c.args.rows.now) c.deref.result.now c.loop-x.marks c.mark_row.new.marks c.pop.new.self.items c.mark_row.new.waiting.items
          (All-before (λ x. x < length c.args.rows.now) c.loop-x.waiting.items c.pop.new.self.items c.in-Some.x c.in-Some.ensures.items waits) row c.in_ok-mark_row.ensures,
    )
