use Rattle.std.proofs.Common.{◌≡◌, ℕ, ◌<◌, inl, inr, length, arith, rules}
use Rattle.std.proofs.lemmas.List.{length-map}
use Rattle.hm_graph_components.specs.Digraph.{lists}
use Rattle.hm_graph_components.specs.Checks.{AreMembers, AllAscending, NoEdgeAhead, IsReachedWithin, IsOrdered}
use Rattle.hm_graph_components.proofs.ChecksSoFar.{Closure-flip}
use Rattle.hm_graph_components.proofs.Checked.{checked_groups}
use Rattle.hm_graph_components.proofs.checking.are_numbered_groups.Goals as goal

pub returns : goal.returns
returns c = λ are.
    let n_is : length (lists c.args.rows.now) ≡ length c.args.rows.now = length-map c.args.rows.now (λ r. r.items) in
    let members : AreMembers (lists c.args.list.now.groups.now) c.args.list.now.numbers.now = search rules in
    let up : AllAscending (lists c.args.list.now.groups.now) = search rules in
    let down : NoEdgeAhead (lists c.args.rows.now) c.args.list.now.numbers.now = search rules in
    let near : (x : ℕ) → x < length c.args.rows.now → IsReachedWithin (lists c.args.rows.now) c.args.list.now.numbers.now c.args.list.now.leasts.now x = search rules in
    let near_back : (x : ℕ) → x < length c.args.back.now → IsReachedWithin (lists c.args.back.now) c.args.list.now.numbers.now c.args.list.now.leasts.now x = search rules in
    let ordered : IsOrdered (lists c.args.rows.now) c.args.list.now.numbers.now c.args.list.now.leasts.now = search rules in
    checked_groups (lists c.args.rows.now) (lists c.args.list.now.groups.now) c.args.list.now.numbers.now c.args.list.now.leasts.now ordered.earliest
    (record {
      closed = c.requires.closed;
      covered = rw n_is c.requires.covered;
      members = members;
      up = up;
      are_leasts = c.requires.leasts;
      down = down;
      from_least = λ x below. near x (omega arith);
      to_least = λ x below. elim (near_back x (omega (arith, c.requires.len))) [
        | inl is ↦ inl is
        | inr reach ↦ inr (Closure-flip (λ a b edge. c.requires.back a b edge) reach)
      ];
      are_heights = ordered.are_earliest;
      least_first = ordered.least_first;
    })
