use Rattle.std.proofs.Common.{◌≡◌, ◌<◌, ◌++◌, ◌∷◌, [], sym, length, All, get_or, arith, rules}
use Rattle.std.proofs.lemmas.List.{length-map}
use Rattle.hm_graph_components.specs.Digraph.{lists}
use Rattle.hm_graph_components.proofs.Rows.{All-row_at}
use Rattle.hm_graph_components.proofs.Walks.{All-push, All-before, All-last}
use Rattle.hm_graph_components.proofs.components.step_on.Goals as goal

pub bounds-seen-y : goal.bounds-seen-y
bounds-seen-y c =
    let x_in : c.in-Some.x < length c.args.rows.now = All-last (λ x. x < length c.args.rows.now) c.args.path.now.items c.pop.new.self.items c.in-Some.x c.in-Some.ensures.items c.requires.path in
    let k_in : get_or c.args.next.now c.in-Some.x 0 < length c.as_slice-row.result.now = search rules in
    let n_is : length c.args.seen.now ≡ length (lists c.args.rows.now) = omega (arith, c.requires.seen, length-map c.args.rows.now (λ r. r.items)) in
    let row : All (λ y. y < length c.args.seen.now) c.as_slice-row.result.now =
    rw c.as_slice-row.ensures.value (All-row_at c.args.rows.now c.in-Some.x (length c.args.seen.now) c.index-rows-x.result c.requires.closed x_in c.index-rows-x.is n_is) in
    row (get_or c.args.next.now c.in-Some.x 0) 0 k_in

pub bounds-seen-y-then-not-seen-y : goal.bounds-seen-y-then-not-seen-y
bounds-seen-y-then-not-seen-y c =
    let x_in : c.in-Some.x < length c.args.rows.now = All-last (λ x. x < length c.args.rows.now) c.args.path.now.items c.pop.new.self.items c.in-Some.x c.in-Some.ensures.items c.requires.path in
    let k_in : get_or c.args.next.now c.in-Some.x 0 < length c.as_slice-row.result.now = search rules in
    let n_is : length c.args.seen.now ≡ length (lists c.args.rows.now) = omega (arith, c.requires.seen, length-map c.args.rows.now (λ r. r.items)) in
    let row : All (λ y. y < length c.args.seen.now) c.as_slice-row.result.now =
    rw c.as_slice-row.ensures.value (All-row_at c.args.rows.now c.in-Some.x (length c.args.seen.now) c.index-rows-x.result c.requires.closed x_in c.index-rows-x.is n_is) in
    row (get_or c.args.next.now c.in-Some.x 0) 0 k_in

pub returns-in_ok-push-3-clause-path : goal.returns-in_ok-push-3-clause-path
returns-in_ok-push-3-clause-path c =
    let x_in : c.in-Some.x < length c.args.rows.now = All-last (λ x. x < length c.args.rows.now) c.args.path.now.items c.pop.new.self.items c.in-Some.x c.in-Some.ensures.items c.requires.path in
    let k_in : get_or c.args.next.now c.in-Some.x 0 < length c.as_slice-row.result.now = search rules in
    let n_is : length c.args.rows.now ≡ length (lists c.args.rows.now) = sym (length-map c.args.rows.now (λ r. r.items)) in
    let row : All (λ y. y < length c.args.rows.now) c.as_slice-row.result.now =
    rw c.as_slice-row.ensures.value (All-row_at c.args.rows.now c.in-Some.x (length c.args.rows.now) c.index-rows-x.result c.requires.closed x_in c.index-rows-x.is n_is) in
    rw (c.in_ok-push-3.ensures.items, c.in_ok-push-2.ensures.items)
    (All-push (λ y. y < length c.args.rows.now) (c.pop.new.self.items ++ c.in-Some.x ∷ []) (get_or c.as_slice-row.result.now (get_or c.args.next.now c.in-Some.x 0) 0)
    (All-push (λ y. y < length c.args.rows.now) c.pop.new.self.items c.in-Some.x (All-before (λ y. y < length c.args.rows.now) c.args.path.now.items c.pop.new.self.items c.in-Some.x c.in-Some.ensures.items c.requires.path) x_in)
    (row (get_or c.args.next.now c.in-Some.x 0) 0 k_in))
